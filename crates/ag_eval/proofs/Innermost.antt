-- The values of bindings without the innermost one.
use Rattle.ag_eval.proofs.Common
use Common.{Some, ◌≡◌, ◌≢◌, ℕ, zero, suc, ◌<◌, List, [], ◌∷◌, ◌++◌, length, map, slice_get, refl, sym, ap, subst, ◌∙◌, arith}
use Common.{length-map, map-append}

-- without the innermost binding the outer ones have the same numbers
pub stays : {A : Type 0} (outer : List A) (innermost : A) (k : ℕ) → k < length (outer ++ innermost ∷ []) → k ≢ length outer
    → slice_get outer k ≡ slice_get (outer ++ innermost ∷ []) k
stays [] innermost zero lt other = absurd (other refl)
stays [] innermost (suc k) lt other = absurd (omega arith)
stays (x ∷ xs) innermost zero lt other = refl
stays (x ∷ xs) innermost (suc k) lt other = stays xs innermost k (omega arith) (λ same. other (ap suc same))

-- the innermost binding has as its number, from 0, the count of the outer ones
pub last : {A : Type 0} (outer : List A) (innermost : A) → slice_get (outer ++ innermost ∷ []) (length outer) ≡ Some innermost
last [] innermost = refl
last (x ∷ xs) innermost = last xs innermost

-- as `stays`, but for the values that contracts see in place of the bindings
pub seen_stays : {A B : Type 0} (view : A → B) (whole : List B) (all outer : List A) (innermost : A) (k : ℕ)
    → map view all ≡ whole → all ≡ outer ++ innermost ∷ [] → k < length whole → k ≢ length outer
    → slice_get (map view outer) k ≡ slice_get whole k
seen_stays view whole all outer innermost k is split lt other =
    let parts : map view outer ++ view innermost ∷ [] ≡ whole =
    sym (map-append view outer (innermost ∷ [])) ∙ ap (map view) (sym split) ∙ is in
    let long : length (map view outer) ≡ length outer = length-map outer view in
    subst (λ ys. slice_get (map view outer) k ≡ slice_get ys k) parts
    (stays (map view outer) (view innermost) k (subst (λ ys. k < length ys) (sym parts) lt) (λ same. other (same ∙ long)))
