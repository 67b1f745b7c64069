-- Lists of bytes.
use Rattle.std.proofs.Common.{◌<◌, slice_index, ◌-◌, ℕ, List, ◌++◌, inl, inr, length, refl}
use Rattle.std.proofs.lemmas.Bool.{cases_lt}
use Rattle.std.proofs.lemmas.List.{get_or_append_left, get_or-append_right}

-- each number is a byte
abbrev pub IsBytes : List ℕ → Type 0
IsBytes bytes = (i : ℕ) → slice_index bytes i < 256

-- bytes after others
pub both_bytes : (xs ys : List ℕ) → IsBytes xs → IsBytes ys → IsBytes (xs ++ ys)
both_bytes xs ys h k i = elim (cases_lt i (length xs)) [
  | inl less ↦ rw (get_or_append_left xs ys 0 i less) (h i)
  | inr more ↦ rw (get_or-append_right xs ys (length xs) i 0 refl more) (k (i - length xs))
]
