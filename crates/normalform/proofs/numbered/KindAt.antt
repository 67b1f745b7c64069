-- The kind and the role of a symbol's attribute by its number.
use Rattle.normalform.proofs.Common
use Common.{ℕ, zero, suc, ◌≡◌, ◌-◌, ◌<◌, ◌≤◌, ◌∙◌, Bool, true, false, cond, List, [], ◌∷◌, ◌++◌, length, map, Some, None, Option}
use Common.{nat_lt, slice_get, refl, ap, sym, arith, nat_tests, ltb-true, length-map, Symbol, Kind, Synthesized, Inherited}
use Common.{RawSymbol, Named, symbol_of, texts_of, kind_at, role_of, symbol_role}
use Rattle.std.proofs.lemmas.Bool.{ltb-false}

abbrev kinds : List (List ℕ) → List (List ℕ) → List Kind
kinds syn inh = map (λ n. Synthesized) syn ++ map (λ n. Inherited) inh

pub kind_is : (syn inh : List (List ℕ)) (a : ℕ) → slice_get (kinds syn inh) a ≡ kind_at (length syn) (length inh) a
kind_is [] [] a = grind (arith, nat_tests)
kind_is [] (x ∷ xs) zero = grind (arith, nat_tests)
kind_is [] (x ∷ xs) (suc a) = kind_is [] xs a ∙ grind (arith, nat_tests)
kind_is (x ∷ xs) inh zero = grind (arith, nat_tests)
kind_is (x ∷ xs) inh (suc a) = kind_is xs inh a ∙ grind (arith, nat_tests)

-- which numbers are those of synthesized attributes, and which those of inherited ones
pub synthesized_below : (m n a : ℕ) → kind_at m n a ≡ Some Synthesized → a < m
synthesized_below m n a h = go (nat_lt a m) (nat_lt (a - m) n) refl h
  where
    go : (b c : Bool) → nat_lt a m ≡ b → cond b (Some Synthesized) (cond c (Some Inherited) None) ≡ Some Synthesized → a < m
    go true c e h = ltb-true a m e
    go false true e h = absurd (cc)
    go false false e h = absurd (cc)

pub inherited_within : (m n a : ℕ) → kind_at m n a ≡ Some Inherited → (m ≤ a) × (a - m < n)
inherited_within m n a h = go (nat_lt a m) (nat_lt (a - m) n) refl refl h
  where
    go : (b c : Bool) → nat_lt a m ≡ b → nat_lt (a - m) n ≡ c
        → cond b (Some Synthesized) (cond c (Some Inherited) None) ≡ Some Inherited → (m ≤ a) × (a - m < n)
    go true c e f h = absurd (cc)
    go false true e f h = (ltb-false a m e, ltb-true (a - m) n f)
    go false false e f h = absurd (cc)

-- the role of an attribute of a declared symbol
pub role_same : (o : Option Symbol) (s : RawSymbol) (syn inh : List Named) (a place : ℕ) → o ≡ Some (symbol_of s) → syn ≡ s.syn
    → inh ≡ s.inh → role_of (kind_at (length syn) (length inh) a) place ≡ symbol_role o a place
role_same o s syn inh a place e f g =
    let m : length (texts_of s.syn) ≡ length syn = length-map s.syn (λ (n : Named). n.name) ∙ ap length (sym f) in
    let n : length (texts_of s.inh) ≡ length inh = length-map s.inh (λ (n : Named). n.name) ∙ ap length (sym g) in
    let kind = rw (m, n) at (kind_is (texts_of s.syn) (texts_of s.inh) a) in
    rw e (ap (λ k. role_of k place) (sym kind))
