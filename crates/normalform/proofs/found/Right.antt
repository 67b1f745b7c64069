-- Lists of checks that all hold, and elements of mapped and concatenated lists.
use Rattle.normalform.proofs.Common
use Common.{ℕ, zero, suc, ◌≡◌, ◌+◌, true, List, [], ◌∷◌, ◌++◌, map, flat_map, Some, None, Option, slice_get, refl, sym, ◌∙◌}
use Common.{arith, ap, subst, option_or, map-append, Each, Has, NormalFault, Check, first_wrong, checks_along, next_index}
use Common.{at_mapped, mapped_at}
use Rattle.std.proofs.lemmas.List.Concat.{flat_map-append}

-- the first failing check of a concatenated list
pub wrong-append : (xs ys : List Check) → first_wrong (xs ++ ys) ≡ option_or (first_wrong xs) (first_wrong ys)
wrong-append [] ys = refl
wrong-append (x ∷ xs) ys = let rest = wrong-append xs ys in grind arith

pub both_right : (xs ys : List Check) → first_wrong (xs ++ ys) ≡ None → (first_wrong xs ≡ None) × (first_wrong ys ≡ None)
both_right xs ys h = go (first_wrong xs) (first_wrong ys) (sym (wrong-append xs ys) ∙ h)
  where
    go : (a b : Option NormalFault) → option_or a b ≡ None → (a ≡ None) × (b ≡ None)
    go None b e = (refl, e)
    go (Some x) b e = absurd (cc)

pub together : (xs ys : List Check) → first_wrong xs ≡ None → first_wrong ys ≡ None → first_wrong (xs ++ ys) ≡ None
together xs ys e f = rw (wrong-append xs ys, e) f

pub is_right : (p : Check) → first_wrong (p ∷ []) ≡ None → p.1 ≡ true
is_right p h = grind arith

pub right_is : (p : Check) → p.1 ≡ true → first_wrong (p ∷ []) ≡ None
right_is p h = rw h refl

-- the tests of some checks hold
abbrev pub AreRight : List Check → Type 0
AreRight [] = Unit {0}
AreRight (p ∷ ps) = (p.1 ≡ true) × AreRight ps

pub all_right : (ps : List Check) → first_wrong ps ≡ None → AreRight ps
all_right [] h = tt
all_right (p ∷ ps) h = let w = both_right (p ∷ []) ps h in (is_right p w.0, all_right ps w.1)

pub flat_each : {X : Type 0} (f : X → List Check) (xs : List X) → first_wrong (flat_map f xs) ≡ None → (i : ℕ) (x : X)
    → slice_get xs i ≡ Some x → first_wrong (f x) ≡ None
flat_each f [] h i x e = absurd (cc)
flat_each f (y ∷ ys) h zero x e = let same : y ≡ x = cc in rw (← same) (both_right (f y) _ h).0
flat_each f (y ∷ ys) h (suc i) x e = flat_each f ys (both_right (f y) _ h).1 i x e

pub each_flat : {X : Type 0} (f : X → List Check) (xs : List X)
    → ((i : ℕ) (x : X) → slice_get xs i ≡ Some x → first_wrong (f x) ≡ None) → first_wrong (flat_map f xs) ≡ None
each_flat f [] h = refl
each_flat f (y ∷ ys) h = together (f y) (flat_map f ys) (h zero y refl) (each_flat f ys (λ i. h (suc i)))

pub map_each : {X : Type 0} (f : X → Check) (xs : List X) → first_wrong (map f xs) ≡ None → (i : ℕ) (x : X)
    → slice_get xs i ≡ Some x → (f x).1 ≡ true
map_each f [] h i x e = absurd (cc)
map_each f (y ∷ ys) h zero x e = let same : y ≡ x = cc in rw (← same) (is_right (f y) (both_right (f y ∷ []) (map f ys) h).0)
map_each f (y ∷ ys) h (suc i) x e = map_each f ys (both_right (f y ∷ []) (map f ys) h).1 i x e

pub each_map : {X : Type 0} (f : X → Check) (xs : List X) → ((i : ℕ) (x : X) → slice_get xs i ≡ Some x → (f x).1 ≡ true)
    → first_wrong (map f xs) ≡ None
each_map f [] h = refl
each_map f (y ∷ ys) h = together (f y ∷ []) (map f ys) (right_is (f y) (h zero y refl)) (each_map f ys (λ i. h (suc i)))

-- a property holds of each element of a mapped list if it does of its origin
pub each_mapped : {X Y : Type 0} (g : X → Y) (P : Y → Type 0) (xs : List X)
    → ((i : ℕ) (x : X) → slice_get xs i ≡ Some x → P (g x)) → Each P (map g xs)
each_mapped g P xs h i y e = let w = mapped_at g xs i y e in subst P w.2 (h i w.0 w.1)

pub mapped_each : {X Y : Type 0} (g : X → Y) (P : Y → Type 0) (xs : List X) → Each P (map g xs) → (i : ℕ) (x : X)
    → slice_get xs i ≡ Some x → P (g x)
mapped_each g P xs h i x e = h i (g x) (at_mapped g xs i x e)

-- the checks of mapped elements
pub flat_at : {X Y : Type 0} (f : Y → List Check) (g : X → Y) (xs : List X) → first_wrong (flat_map f (map g xs)) ≡ None → (i : ℕ)
    (x : X) → slice_get xs i ≡ Some x → first_wrong (f (g x)) ≡ None
flat_at f g xs h = mapped_each g (λ y. first_wrong (f y) ≡ None) xs (flat_each f (map g xs) h)

pub at_flat : {X Y : Type 0} (f : Y → List Check) (g : X → Y) (xs : List X)
    → ((i : ℕ) (x : X) → slice_get xs i ≡ Some x → first_wrong (f (g x)) ≡ None) → first_wrong (flat_map f (map g xs)) ≡ None
at_flat f g xs h = each_flat f (map g xs) (each_mapped g (λ y. first_wrong (f y) ≡ None) xs h)

-- lists made of the elements of lists
pub map_flat : {X Y Z : Type 0} (f : Y → Z) (g : X → List Y) (xs : List X) → map f (flat_map g xs) ≡ flat_map (λ x. map f (g x)) xs
map_flat f g [] = refl
map_flat f g (x ∷ xs) = map-append f (g x) (flat_map g xs) ∙ ap (λ zs. map f (g x) ++ zs) (map_flat f g xs)

pub flat_flat : {X Y Z : Type 0} (f : Y → List Z) (g : X → List Y) (xs : List X)
    → flat_map f (flat_map g xs) ≡ flat_map (λ x. flat_map f (g x)) xs
flat_flat f g [] = refl
flat_flat f g (x ∷ xs) = flat_map-append f (g x) (flat_map g xs) ∙ ap (λ zs. flat_map f (g x) ++ zs) (flat_flat f g xs)

pub along_each : {X : Type 0} (f : ℕ → X → List Check) (n : ℕ) (xs : List X) → first_wrong (checks_along f next_index n xs) ≡ None
    → (i : ℕ) (x : X) → slice_get xs i ≡ Some x → first_wrong (f (n + i) x) ≡ None
along_each f n [] h i x e = absurd (cc)
along_each f n (y ∷ ys) h zero x e =
    let same : y ≡ x = cc in
    let here : n + 0 ≡ n = omega arith in
    rw (here, ← same) (both_right (f n y) _ h).0
along_each f n (y ∷ ys) h (suc i) x e =
    let there : n + suc i ≡ (n + 1) + i = omega arith in
    rw there (along_each f (n + 1) ys (both_right (f n y) _ h).1 i x e)

pub each_along : {X : Type 0} (f : ℕ → X → List Check) (n : ℕ) (xs : List X)
    → ((i : ℕ) (x : X) → slice_get xs i ≡ Some x → first_wrong (f (n + i) x) ≡ None)
    → first_wrong (checks_along f next_index n xs) ≡ None
each_along f n [] h = refl
each_along f n (y ∷ ys) h =
    let here : n + 0 ≡ n = omega arith in
    together (f n y) (checks_along f next_index (n + 1) ys) (rw here at (h zero y refl))
    (each_along f (n + 1) ys (λ i x e. let there : n + suc i ≡ (n + 1) + i = omega arith in rw there at (h (suc i) x e)))

-- an element of one of some lists is in their concatenation
pub has_left : {X : Type 0} (xs ys : List X) (x : X) → Has xs x → Has (xs ++ ys) x
has_left [] ys x (i, e) = absurd (cc)
has_left (z ∷ zs) ys x (zero, e) = (zero, e)
has_left (z ∷ zs) ys x (suc i, e) = let w = has_left zs ys x (i, e) in (suc w.0, w.1)

pub has_right : {X : Type 0} (xs ys : List X) (x : X) → Has ys x → Has (xs ++ ys) x
has_right [] ys x h = h
has_right (z ∷ zs) ys x h = let w = has_right zs ys x h in (suc w.0, w.1)

pub has_flat : {X Y : Type 0} (f : X → List Y) (xs : List X) (i : ℕ) (x : X) (y : Y) → slice_get xs i ≡ Some x → Has (f x) y
    → Has (flat_map f xs) y
has_flat f [] i x y e h = absurd (cc)
has_flat f (z ∷ zs) zero x y e h = let same : z ≡ x = cc in has_left (f z) (flat_map f zs) y (rw same h)
has_flat f (z ∷ zs) (suc i) x y e h = has_right (f z) (flat_map f zs) y (has_flat f zs i x y e h)
