-- Predicates on lists whose members are identified by their index from 0.
use Rattle.std.specs.Prelude.{ℕ, ◌≡◌, List, Some, slice_get, length}

-- x is a member of the list
abbrev pub Has : {A : Type 0} → List A → A → Type 0
Has xs x = (i : ℕ) × (slice_get xs i ≡ Some x)

-- P holds for each member of the list
abbrev pub Each : {A : Type 0} → (A → Type 0) → List A → Type 0
Each {A} P xs = (i : ℕ) (x : A) → slice_get xs i ≡ Some x → P x

-- the lists have the same length, and R relates the members at each index
pub record AreRelated {A B : Type 0} (R : A → B → Type 0) (xs : List A) (ys : List B) : Type 0 where
  pub equally_long : length xs ≡ length ys
  pub each : (i : ℕ) (x : A) (y : B) → slice_get xs i ≡ Some x → slice_get ys i ≡ Some y → R x y

-- f has different values for any two members at different indexes
abbrev pub DifferIn : {A B : Type 0} → (A → B) → List A → Type 0
DifferIn {A} {B} f xs = (i j : ℕ) (x y : A) → slice_get xs i ≡ Some x → slice_get xs j ≡ Some y → f x ≡ f y → i ≡ j

-- the members at different indexes are different
abbrev pub Differ : {A : Type 0} → List A → Type 0
Differ xs = DifferIn (λ x. x) xs
