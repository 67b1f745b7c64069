-- Elements of lists by their positions.
use Rattle.std.proofs.Common.{ℕ, zero, suc, ◌≡◌, ◌⊎◌, List, [], ◌∷◌, ◌++◌, map, length, Contains, Some, slice_get, refl}
use Rattle.std.proofs.Common.{inl, inr, arith}
use Rattle.std.proofs.lemmas.Option.{slice_get-get_or, slice_get_within, get_or_from_slice_get}

-- the element at a position of a mapped list is the image of the element at this position, and conversely
pub mapped_at : {X Y : Type 0} (f : X → Y) (xs : List X) (i : ℕ) (y : Y) → slice_get (map f xs) i ≡ Some y
    → (x : X) × (slice_get xs i ≡ Some x) × (f x ≡ y)
mapped_at f [] i y e = absurd (cc)
mapped_at f (x ∷ xs) zero y e = (x, refl, cc)
mapped_at f (x ∷ xs) (suc i) y e = mapped_at f xs i y e

pub at_mapped : {X Y : Type 0} (f : X → Y) (xs : List X) (i : ℕ) (x : X) → slice_get xs i ≡ Some x
    → slice_get (map f xs) i ≡ Some (f x)
at_mapped f [] i x e = absurd (cc)
at_mapped f (z ∷ xs) zero x e = let same : z ≡ x = cc in cc
at_mapped f (z ∷ xs) (suc i) x e = at_mapped f xs i x e

-- an element of a list has a position in it, and each position has an element
pub position_of_element : {X : Type 0} (xs : List X) (x : X) → Contains xs x → (p : ℕ) × (slice_get xs p ≡ Some x)
position_of_element xs x h = (h.0, cc (slice_get-get_or xs h.0 x h.1))

pub element_at : {X : Type 0} (xs : List X) (p : ℕ) (x : X) → slice_get xs p ≡ Some x → Contains xs x
element_at xs p x h = (p, slice_get_within xs p x h, get_or_from_slice_get xs p x x h)

-- the elements of a list after an element is added at its end
pub get_push_front : {A : Type 0} (xs : List A) (y x : A) (i : ℕ) → slice_get xs i ≡ Some x → slice_get (xs ++ y ∷ []) i ≡ Some x
get_push_front [] y x i e = absurd (let bad : ⊥ = cc in bad)
get_push_front (z ∷ xs) y x zero e = e
get_push_front (z ∷ xs) y x (suc i) e = get_push_front xs y x i e

pub get_push_end : {A : Type 0} (xs : List A) (y : A) → slice_get (xs ++ y ∷ []) (length xs) ≡ Some y
get_push_end [] y = refl
get_push_end (z ∷ xs) y = get_push_end xs y

pub get_push_cases : {A : Type 0} (xs : List A) (y x : A) (i : ℕ) → slice_get (xs ++ y ∷ []) i ≡ Some x
    → (slice_get xs i ≡ Some x) ⊎ ((i ≡ length xs) × (y ≡ x))
get_push_cases [] y x zero e = inr (refl, cc)
get_push_cases [] y x (suc i) e = absurd (let bad : ⊥ = cc in bad)
get_push_cases (z ∷ xs) y x zero e = inl e
get_push_cases (z ∷ xs) y x (suc i) e = elim (get_push_cases xs y x i e) [
  | inl old ↦ inl old
  | inr new ↦ inr (let f = new.0 in omega arith, new.1)
]
