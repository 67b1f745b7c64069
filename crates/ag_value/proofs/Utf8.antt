-- The test `is_utf8` is true exactly if the statement `IsUtf8` holds.
use Rattle.std.proofs.Common.{◌≡◌, ℕ, false, List}
use Rattle.std.specs.Str.{IsUtf8, is_utf8}
use Rattle.std.proofs.lemmas.Bool.{false_from_ne_true}
use Rattle.std.proofs.lemmas.Str.{IsUtf8-from_is_utf8, is_utf8-from_IsUtf8}

pub is_no_text : (bytes : List ℕ) → (IsUtf8 bytes → ⊥) → is_utf8 bytes ≡ false
is_no_text bytes h = false_from_ne_true _ (λ e. h (IsUtf8-from_is_utf8 bytes e))

pub ruleset utf8 = (is_utf8-from_IsUtf8, is_no_text)
