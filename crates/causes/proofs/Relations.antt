-- Chains along a relation without cycles, whose members are all in a list: they are shorter than the list.
use Rattle.causes.proofs.Common
use Common.{ℕ, zero, suc, ◌≡◌, ◌<◌, List, [], ◌∷◌, length, Some, slice_get, refl, arith, slice_get_within, Has}

-- a list without the member at an index
abbrev without : {X : Type 0} → List X → ℕ → List X
without [] i = []
without (x ∷ xs) zero = xs
without (x ∷ xs) (suc i) = x ∷ without xs i

without_length : {X : Type 0} (xs : List X) (i : ℕ) (x : X) → slice_get xs i ≡ Some x → length xs ≡ suc (length (without xs i))
without_length [] i x e = cc
without_length (y ∷ xs) zero x e = refl
without_length (y ∷ xs) (suc i) x e = cc (without_length xs i x e)

-- another member stays
still_there : {X : Type 0} (xs : List X) (i : ℕ) (x y : X) → slice_get xs i ≡ Some x → (x ≡ y → ⊥) → Has xs y
    → Has (without xs i) y
still_there [] i x y e differs (j, f) = cc
still_there (z ∷ xs) zero x y e differs (zero, f) = absurd (differs (cc))
still_there (z ∷ xs) zero x y e differs (suc j, f) = (j, f)
still_there (z ∷ xs) (suc i) x y e differs (zero, f) = (0, f)
still_there (z ∷ xs) (suc i) x y e differs (suc j, f) =
    let later = still_there xs i x y e differs (j, f) in (suc later.0, later.1)

-- Each chain along R from an element has an end.
pub data Ends {X : Type 0} (R : X → X → Type 0) : X → Type 0 where
  ends : (x : X) → ((y : X) → R x y → Ends R y) → Ends R x

-- a chain of n steps leads from an element to another
abbrev pub Reaches : {X : Type 0} → (X → X → Type 0) → ℕ → X → X → Type 0
Reaches R zero x y = x ≡ y
Reaches {X} R (suc n) x y = (z : X) × R x z × Reaches R n z y

module _ {X : Type 0} (R : X → X → Type 0) where
  pub further : (n : ℕ) (x y z : X) → Reaches R n x y → R y z → Reaches R (suc n) x z
  further zero x y z same step = (z, rw same step, refl)
  further (suc n) x y z (w, first, others) step = (w, first, further n w y z others step)

  -- if each chain from an element has an end, none leads back to it
  no_cycle : {x : X} → Ends R x → (n : ℕ) → Reaches R (suc n) x x → ⊥
  no_cycle (ends x h) n (y, step, back) = no_cycle (h y step) n (further n y x y back step)

  -- a chain has fewer steps than a list has elements, if the list has all elements that chains from x reach
  pub is_short : (n : ℕ) {x : X} (y : X) → Ends R x → (xs : List X) → ((k : ℕ) (z : X) → Reaches R k x z → Has xs z)
      → Reaches R n x y → n < length xs
  is_short zero y (ends x h) xs all there =
      let at = all 0 x refl in omega (arith, slice_get_within xs at.0 x at.1)
  is_short (suc n) y (ends x h) xs all (z, step, others) =
      let at = all 0 x refl in
      let less = is_short n y (h z step) (without xs at.0) (λ k w reaches.
      still_there xs at.0 x w at.1 (λ same. no_cycle (ends x h) k (z, step, rw same reaches)) (all (suc k) w (z, step, reaches)))
      others in
      omega (arith, without_length xs at.0 x at.1)
