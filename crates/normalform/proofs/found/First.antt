-- A raw grammar has at most one first fault.
use Rattle.normalform.proofs.Common
use Common.{ℕ, ◌≡◌, inl, inr, List, ap, arith, cases_lt, cases_eq, slice_get_within, Named, RawGrammar, RawSymbol, NormalFault}
use Common.{IsFirstFault, IsFirstNot, in_names, in_productive, in_reached, in_rules}

same_number : (P : ℕ → Type 0) (ss : List RawSymbol) (a b : Named) (x : IsFirstNot P ss a) (y : IsFirstNot P ss b)
    → x.number ≡ y.number
same_number P ss a b x y = elim (cases_lt x.number y.number) [
  | inl lt ↦ absurd (x.wrong (y.before x.number lt))
  | inr le ↦ elim (cases_eq x.number y.number) [
    | inl e ↦ e
    | inr other ↦ absurd (y.wrong (x.before y.number (omega arith)))
  ]
]

same_name : (P : ℕ → Type 0) (ss : List RawSymbol) (a b : Named) → IsFirstNot P ss a → IsFirstNot P ss b → a ≡ b
same_name P ss a b x y =
    let n = same_number P ss a b x y in
    let s : x.symbol ≡ y.symbol = cc in
    cc (ap (λ (t : RawSymbol). t.name) s)

pub one_first_fault : (raw : RawGrammar) (f h : NormalFault) → IsFirstFault raw f → IsFirstFault raw h → f ≡ h
one_first_fault raw f h (in_names e) (in_names k) = cc (e, k)
one_first_fault raw f h (in_names e) (in_productive n y) = absurd (cc (e, n))
one_first_fault raw f h (in_names e) (in_reached n all y) = absurd (cc (e, n))
one_first_fault raw f h (in_names e) (in_rules n all reached k) = absurd (cc (e, n))
one_first_fault raw f h (in_productive n x) (in_names k) = absurd (cc (n, k))
one_first_fault raw f h (in_productive {name = a} n x) (in_productive {name = b} m y) = cc (same_name _ raw.symbols a b x y)
one_first_fault raw f h (in_productive n x) (in_reached m all y) =
    absurd (x.wrong (all x.number (slice_get_within _ _ _ x.declared)))
one_first_fault raw f h (in_productive n x) (in_rules m all reached k) =
    absurd (x.wrong (all x.number (slice_get_within _ _ _ x.declared)))
one_first_fault raw f h (in_reached n all x) (in_names k) = absurd (cc (n, k))
one_first_fault raw f h (in_reached n all x) (in_productive m y) =
    absurd (y.wrong (all y.number (slice_get_within _ _ _ y.declared)))
one_first_fault raw f h (in_reached {name = a} n all x) (in_reached {name = b} m more y) = cc (same_name _ raw.symbols a b x y)
one_first_fault raw f h (in_reached n all x) (in_rules m more reached k) =
    absurd (x.wrong (reached x.number (slice_get_within _ _ _ x.declared)))
one_first_fault raw f h (in_rules n all reached e) (in_names k) = absurd (cc (n, k))
one_first_fault raw f h (in_rules n all reached e) (in_productive m y) =
    absurd (y.wrong (all y.number (slice_get_within _ _ _ y.declared)))
one_first_fault raw f h (in_rules n all reached e) (in_reached m more y) =
    absurd (y.wrong (reached y.number (slice_get_within _ _ _ y.declared)))
one_first_fault raw f h (in_rules n all reached e) (in_rules m more there k) = cc (e, k)
