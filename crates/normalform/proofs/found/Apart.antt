-- Keys of which none is among the earlier ones are distinct, and the converse.
use Rattle.normalform.proofs.Common
use Common.{zero, suc, ℕ, ◌≡◌, ◌<◌, ◌≢◌, Bool, true, false, cond, not, List, [], ◌∷◌, ◌++◌, length, get_or, map, None, Some}
use Common.{slice_get, AllPairs, refl, sym, ◌∙◌, inl, inr, arith, append-nil, append_assoc, length-append, false≢true, cases_eq}
use Common.{cases_lt, length-map, get_or-map, list_any_at, list_any_none, get_or_from_slice_get, slice_get_within}
use Common.{slice_get-get_or, list_any, DifferIn, NormalFault, Check, first_wrong, checks_along}
use Rattle.std.proofs.lemmas.List.{get_or_append_left, get_or_at}
use Rattle.std.proofs.lemmas.List.Quantifiers.{all_pairs_push}
use Rattle.normalform.proofs.found.Right.{both_right, together, is_right, right_is}

-- no key occurs twice
abbrev pub Apart : {K : Type 0} → List K → Type 0
Apart {K} keys = AllPairs (λ (a b : K). a ≢ b) keys

-- a test that decides whether keys are equal
pub record DecidesBy {K : Type 0} (same : K → K → Bool) : Type 0 where
  pub sound : (a b : K) → same a b ≡ true → a ≡ b
  pub whole : (a b : K) → a ≡ b → same a b ≡ true

differs : {K : Type 0} (same : K → K → Bool) → DecidesBy same → (a b : K) → a ≢ b → same b a ≡ false
differs same decides a b other = grind (arith, decides.sound)

pub apart_push : {K : Type 0} (same : K → K → Bool) → DecidesBy same → (seen : List K) (key : K) → Apart seen
    → list_any (same key) seen ≡ false → Apart (seen ++ key ∷ [])
apart_push same decides seen key apart new = all_pairs_push (λ a b. a ≢ b) seen key apart (λ k d lt e.
    false≢true (sym new ∙ list_any_at (same key) seen k d lt (decides.whole key (get_or seen k d) (sym e))))

apart_new : {K : Type 0} (same : K → K → Bool) → DecidesBy same → (seen : List K) (key : K) (rest : List K)
    → Apart (seen ++ key ∷ rest) → list_any (same key) seen ≡ false
apart_new same decides seen key rest apart =
    list_any_none (same key) seen (λ k d lt. differs same decides (get_or seen k d) key (λ e.
    apart k (length seen) d lt (omega (arith, length-append seen (key ∷ rest)))
    (get_or_append_left seen (key ∷ rest) d k lt ∙ e ∙ sym (get_or_at seen key rest d (length seen) refl))))

-- The check that the key of x is not among the earlier keys `seen`, and then further checks: `same` compares keys, `fault x` is
-- the fault of the check, `key x` the key, and `more x` are the further checks. `with_key` adds the key of x to `seen`, unless
-- it is there.
abbrev pub key_checks : {X K : Type 0} → (K → K → Bool) → (X → NormalFault) → (X → K) → (X → List Check) → List K → X → List Check
key_checks same fault key more seen x = (fault x, not (list_any (same (key x)) seen)) ∷ more x

abbrev pub with_key : {X K : Type 0} → (K → K → Bool) → (X → K) → List K → X → List K
with_key same key seen x = cond (list_any (same (key x)) seen) seen (seen ++ key x ∷ [])

new_is : (b : Bool) → not b ≡ true → b ≡ false
new_is b h = grind arith

-- the checks of a list with these keys
module _ {X K : Type 0} (same : K → K → Bool) (fault : X → NormalFault) (key : X → K) (more : X → List Check) where
  abbrev pub checks_of_keys : List K → List X → List Check
  checks_of_keys seen xs = checks_along (key_checks same fault key more) (with_key same key) seen xs

  abbrev is_new : List K → X → Check
  is_new seen x = (fault x, not (list_any (same (key x)) seen))

  with_new : (seen : List K) (x : X) → list_any (same (key x)) seen ≡ false → with_key same key seen x ≡ seen ++ key x ∷ []
  with_new seen x new = rw new

  pub apart_along : DecidesBy same → (seen : List K) (xs : List X) → Apart seen → first_wrong (checks_of_keys seen xs) ≡ None
      → Apart (seen ++ map key xs)
  apart_along decides seen [] apart h = rw append-nil apart
  apart_along decides seen (x ∷ xs) apart h =
      let p = both_right (is_new seen x ∷ more x) _ h in
      let new = new_is _ (is_right (is_new seen x) (both_right (is_new seen x ∷ []) (more x) p.0).0) in
      rw (← append_assoc seen (key x ∷ []) (map key xs))
      (apart_along decides (seen ++ key x ∷ []) xs (apart_push same decides seen (key x) apart new)
      (rw (with_new seen x new) at p.1))

  -- if all checks along a list hold, so do the further checks of each element
  pub more_along : (seen : List K) (xs : List X) → first_wrong (checks_of_keys seen xs) ≡ None → (i : ℕ) (x : X)
      → slice_get xs i ≡ Some x → first_wrong (more x) ≡ None
  more_along seen [] h i x e = absurd (cc)
  more_along seen (y ∷ ys) h zero x e =
      let p = both_right (is_new seen y ∷ more y) _ h in
      let z : y ≡ x = cc in rw (← z) (both_right (is_new seen y ∷ []) (more y) p.0).1
  more_along seen (y ∷ ys) h (suc i) x e =
      more_along (with_key same key seen y) ys (both_right (is_new seen y ∷ more y) _ h).1 i x e

  pub along_apart : DecidesBy same → (seen : List K) (xs : List X) → Apart (seen ++ map key xs)
      → ((i : ℕ) (x : X) → slice_get xs i ≡ Some x → first_wrong (more x) ≡ None) → first_wrong (checks_of_keys seen xs) ≡ None
  along_apart decides seen [] apart each = refl
  along_apart decides seen (x ∷ xs) apart each =
      let new = apart_new same decides seen (key x) (map key xs) apart in
      together (is_new seen x ∷ more x) _
      (together (is_new seen x ∷ []) (more x) (right_is (is_new seen x) (rw new refl)) (each zero x refl))
      (rw (with_new seen x new)
      (along_apart decides (seen ++ key x ∷ []) xs (rw (append_assoc seen (key x ∷ []) (map key xs)) apart) (λ i. each (suc i))))

pub none_apart : {K : Type 0} → Apart {K = K} []
none_apart i j d before within = absurd (omega arith)

key_at : {X K : Type 0} (key : X → K) (xs : List X) (n : ℕ) (z d : X) → slice_get xs n ≡ Some z
    → get_or (map key xs) n (key d) ≡ key z
key_at key xs n z d e = cc (get_or-map key xs n d (key d) (slice_get_within _ _ _ e), get_or_from_slice_get xs n z d e)

-- elements differ in their keys if the keys are distinct
pub apart_differ : {X K : Type 0} (key : X → K) (xs : List X) → Apart (map key xs) → DifferIn key xs
apart_differ key xs apart i j x y e f same = elim (cases_lt i j) [
  | inl lt ↦ absurd (apart i j (key x) lt (rw (length-map xs key) (slice_get_within _ _ _ f))
      (cc (key_at key xs i x x e, key_at key xs j y x f)))
  | inr le ↦ elim (cases_eq i j) [
    | inl here ↦ here
    | inr other ↦ absurd (apart j i (key x) (omega arith) (rw (length-map xs key) (slice_get_within _ _ _ e))
        (cc (key_at key xs i x x e, key_at key xs j y x f)))
  ]
]

pub differ_apart : {X K : Type 0} (key : X → K) (xs : List X) → DifferIn key xs → Apart (map key xs)
differ_apart key [] differ i j d lt within same = absurd (omega arith)
differ_apart key (x ∷ ys) differ i j d lt within same =
    let xs = x ∷ ys in
    let hj : j < length xs = rw (length-map xs key) at within in
    let hi : i < length xs = omega arith in
    let k : key (get_or xs i x) ≡ key (get_or xs j x) = cc (get_or-map key xs i x d hi, get_or-map key xs j x d hj) in
    absurd (omega (arith, differ i j _ _ (slice_get-get_or xs i x hi) (slice_get-get_or xs j x hj) k))
