-- Own bytes with splices, which are the encodings of shared values, between them. In this file g is a splice, and gs are the
-- splices after it. All of this is this project's.
use Rattle.std.specs.Prelude.{◌≡◌, ℕ, zero, suc, ◌+◌, ◌-◌, ◌≤◌, List, [], ◌∷◌, ◌++◌, take, drop, length, get_or, ◌<◌}
use Rattle.shared_bytes.specs.declared.splice.Splice.{Splice}

-- The bytes of a part of a list: its own bytes up to its first splice, the bytes of this splice, and the rest. `base` is the
-- number of own bytes of the list before the part. The other arguments are the own bytes of the part, and its splices.
abbrev pub spliced : ℕ → List ℕ → List Splice → List ℕ
spliced base own [] = own
spliced base own (g ∷ gs) = take (g.own - base) own ++ (g.bytes ++ spliced g.own (drop (g.own - base) own) gs)

-- The splices of a part are in order, and before each of them come at least `base` and at most `end` own bytes of the list. The
-- offset in each is right if the part begins at offset `at`, after `base` own bytes. The part ends at offset `total`, after `end`
-- own bytes.
abbrev pub AreSplices : ℕ → ℕ → ℕ → ℕ → List Splice → Type 0
AreSplices base at end total [] = (base ≤ end) × (total ≡ at + (end - base))
AreSplices base at end total (g ∷ gs) =
    (base ≤ g.own) × (g.own ≤ end) × (g.at ≡ at + (g.own - base)) × AreSplices g.own (g.at + length g.bytes) end total gs

-- `CutAt base at splices k o pos`: a part of a list may be cut at offset `pos` of the list. The part begins at offset `at`, after
-- the first `base` own bytes of the list, and has these splices. Exactly the first `o` own bytes of the list, and the first `k`
-- of the part's splices, come before `pos`. The last case continues after the first splice.
abbrev pub CutAt : ℕ → ℕ → List Splice → ℕ → ℕ → ℕ → Type 0
CutAt base at [] zero o pos = (base ≤ o) × (pos ≡ at + (o - base))
CutAt base at (g ∷ gs) zero o pos = (base ≤ o) × (pos ≡ at + (o - base)) × (o ≤ g.own)
CutAt base at [] (suc k) o pos = ⊥
CutAt base at (g ∷ gs) (suc k) o pos = CutAt g.own (g.at + length g.bytes) gs k o pos

-- at least `own` own bytes come before the splice with index `k` (from 0), if there is a splice with this index
abbrev pub IsBeforeSplice : List Splice → ℕ → ℕ → Type 0
IsBeforeSplice gs k own = (x : Splice) → k < length gs → x ≡ get_or gs k x → own ≤ x.own

-- the splice that g becomes if its list is appended to another list, which has `own` own bytes and `at` bytes in all
abbrev pub shift : ℕ → ℕ → Splice → Splice
shift own at g = record { own = own + g.own; at = at + g.at; bytes = g.bytes }
