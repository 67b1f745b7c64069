-- Predicates on all members of a list, a member at a time.
use Rattle.ag_grammar.proofs.Common
use Common.{ℕ, zero, suc, ◌≡◌, List, [], ◌∷◌, Some, slice_get, refl, ap, ◌∙◌, sym, subst, AreRelated, Each, DifferIn}

pub each_none : {A : Type 0} (P : A → Type 0) → Each P []
each_none P i x e = cc

pub each_more : {A : Type 0} (P : A → Type 0) (x : A) (xs : List A) → P x → Each P xs → Each P (x ∷ xs)
each_more P x xs h hs zero y e = let e' : x ≡ y = cc in subst P e' h
each_more P x xs h hs (suc i) y e = hs i y e

pub differ_none : {A B : Type 0} (f : A → B) → DifferIn f []
differ_none f i j x y ex ey e = cc

pub differ_more : {A B : Type 0} (f : A → B) (x : A) (xs : List A) → Each (λ y. f x ≡ f y → ⊥) xs → DifferIn f xs
    → DifferIn f (x ∷ xs)
differ_more f x xs h hs zero zero y z ey ez e = refl
differ_more f x xs h hs zero (suc j) y z ey ez e = absurd (let e' : x ≡ y = cc in h j z ez (ap f e' ∙ e))
differ_more f x xs h hs (suc i) zero y z ey ez e = absurd (let e' : x ≡ z = cc in h i y ey (ap f e' ∙ sym e))
differ_more f x xs h hs (suc i) (suc j) y z ey ez e = ap suc (hs i j y z ey ez e)

-- a predicate on all members of a list of one member, or of two
pub only : {A : Type 0} (P : A → Type 0) (x : A) → P x → Each P (x ∷ [])
only P x h = each_more P x [] h (each_none P)

pub both : {A : Type 0} (P : A → Type 0) (x y : A) → P x → P y → Each P (x ∷ y ∷ [])
both P x y h k = each_more P x (y ∷ []) h (only P y k)

-- the members of a list of one member differ; so do those of a list of two different members
pub alone : {A B : Type 0} (f : A → B) (x : A) → DifferIn f (x ∷ [])
alone f x = differ_more f x [] (each_none (λ y. f x ≡ f y → ⊥)) (differ_none f)

pub pair : {A B : Type 0} (f : A → B) (x y : A) → (f x ≡ f y → ⊥) → DifferIn f (x ∷ y ∷ [])
pair f x y h = differ_more f x (y ∷ []) (only (λ y. f x ≡ f y → ⊥) y h) (alone f y)

-- related lists with no member and with one
pub related_none : {A B : Type 0} (R : A → B → Type 0) → AreRelated R [] []
related_none R = record { equally_long = refl; each = λ i x y ex ey. cc }

pub related_one : {A B : Type 0} (R : A → B → Type 0) (x : A) (y : B) → R x y → AreRelated R (x ∷ []) (y ∷ [])
related_one {A = A} {B = B} R x y h = record { equally_long = refl; each = only_one }
  where
    only_one : (i : ℕ) (u : A) (w : B) → slice_get (x ∷ []) i ≡ Some u → slice_get (y ∷ []) i ≡ Some w → R u w
    only_one zero u w eu ew = let e : x ≡ u = cc in let f : y ≡ w = cc in subst (λ u. R u w) e (subst (R x) f h)
    only_one (suc i) u w eu ew = cc
