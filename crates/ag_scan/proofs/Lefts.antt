-- The rest of a list after its first members.
use Rattle.std.proofs.Common.{◌≡◌, ℕ, zero, suc, ◌+◌, ◌≤◌, List, [], ◌∷◌, length, drop, slice_get, Some, None, refl, ap}
use Rattle.std.proofs.Common.{add-one, arith}
use Rattle.std.proofs.Math.Seq.{drop-nil}

-- the member at an index is the first of the rest
pub rest_at : {A : Type 0} (xs : List A) (i : ℕ) (x : A) → slice_get xs i ≡ Some x → drop i xs ≡ x ∷ drop (i + 1) xs
rest_at [] i x e = absurd (cc)
rest_at (y ∷ ys) zero x e = let same : y ≡ x = cc in ap (λ z. z ∷ ys) same
rest_at (y ∷ ys) (suc i) x e =
    rw (add-one (suc i)) (rw (add-one i) at (rest_at ys i x e))

pub rest_none : {A : Type 0} (xs : List A) (i : ℕ) → slice_get xs i ≡ None → drop i xs ≡ []
rest_none [] i e = drop-nil i
rest_none (y ∷ ys) zero e = absurd (cc)
rest_none (y ∷ ys) (suc i) e = rest_none ys i e

-- if the rest from index i on begins with x, the rest after x begins at i + 1, and i + 1 is at most the length of the list
pub following : {A : Type 0} (xs : List A) (i : ℕ) (x : A) (rest : List A) → drop i xs ≡ x ∷ rest
    → (drop (i + 1) xs ≡ rest) × (i + 1 ≤ length xs)
following {A} [] i x rest e = absurd (cc (drop-nil {A = A} i))
following (y ∷ ys) zero x rest e = (cc, omega arith)
following (y ∷ ys) (suc i) x rest e =
    let (left, within) = following ys i x rest e in
    (rw (add-one (suc i)) (rw (add-one i) at left), omega arith)

-- the first member of the rest is the member at the index
pub there : {A : Type 0} (xs : List A) (i : ℕ) (x : A) (rest : List A) → drop i xs ≡ x ∷ rest → slice_get xs i ≡ Some x
there {A} [] i x rest e = absurd (cc (drop-nil {A = A} i))
there (y ∷ ys) zero x rest e = cc
there (y ∷ ys) (suc i) x rest e = there ys i x rest e

pub ended : {A : Type 0} (xs : List A) (i : ℕ) → drop i xs ≡ [] → (slice_get xs i ≡ None) × (length xs ≤ i)
ended [] i e = (refl, omega arith)
ended (y ∷ ys) zero e = absurd (cc)
ended (y ∷ ys) (suc i) e = let (none, within) = ended ys i e in (none, omega arith)
