-- The names in scope, as the code keeps them.
use Rattle.ag_expr.proofs.Common
use Common.{map-append, ◌∙◌, length, option_to_list, arith, append-nil, ◌≡◌, ℕ, ◌+◌, List, [], ◌∷◌, ◌++◌, map, Option, Some, None}
use Common.{Bor, bytes_eq, cond, refl, Names, last_from, binding_in, without_innermost}

last_map : (name : List ℕ) (at : ℕ) (found : Option ℕ) (ys : List (Bor (List ℕ)))
    → last_from (λ y. bytes_eq y name) at found (map (λ y. y.now) ys) ≡ last_from (λ y. bytes_eq y.now name) at found ys
last_map name at found [] = refl
last_map name at found (y ∷ ys) = last_map name (at + 1) (cond (bytes_eq y.now name) (Some at) found) ys

-- the index of a name in a list of borrowed names
pub last_lent : (name : List ℕ) (ys : List (Bor (List ℕ)))
    → binding_in (map (λ y. y.now) ys) name ≡ last_from (λ y. bytes_eq y.now name) 0 None ys
last_lent name ys = last_map name 0 None ys

-- all names but the innermost
pub outer_end : (names : Names) (name : List ℕ) → without_innermost (names ++ name ∷ []) ≡ names
outer_end [] name = refl
outer_end (x ∷ []) name = refl
outer_end (x ∷ y ∷ ys) name = cc (outer_end (y ∷ ys) name)

-- the innermost name is removed
pub unbound : (old new : List (Bor (List ℕ))) (r : Option (Bor (List ℕ))) → old ≡ new ++ option_to_list r
    → (r ≡ None → length old ≡ 0) → map (λ y. y.now) new ≡ without_innermost (map (λ y. y.now) old)
unbound [] new None e none = let same = e ∙ append-nil new in cc
unbound (x ∷ old) new None e none = absurd (omega (arith, none refl))
unbound old new (Some x) e none = cc (map-append (λ y. y.now) new (x ∷ []), outer_end (map (λ y. y.now) new) x.now)
