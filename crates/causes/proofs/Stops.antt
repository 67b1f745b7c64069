-- Where a chain of rules that pass an error on stops.
use Rattle.causes.proofs.Common
use Common.{ℕ, suc, ◌≡◌, ◌+◌, ◌<◌, inl, inr, false, ◌&&◌, List, drop, get_or, length, take, None, Option, Some, slice_get, arith}
use Common.{IfNone, Result, Ok, Err, nat_eq, OkIff, result_ok, Bor, DifferIn, Rule, Target, value_of, Grammar, fault_of, Table}
use Common.{environment, is_arising, AnswersSource, TreeIndex, HasNoError, HasNoChildAt, LeadsNowhere}
use Rattle.std.proofs.Math.Seq.{split_at}
use Rattle.std.proofs.lemmas.Bool.{and_from, both_ways, cases_lt, eq-eqb}

-- no rule before a number is for a target
abbrev pub NoneBefore : List Rule → Target → ℕ → Type 0
NoneBefore rules target number = (n : ℕ) (r : Rule) → n < number → slice_get rules n ≡ Some r → r.target ≡ target → ⊥

-- if the rule with the number is for another target, `NoneBefore` holds for the next number too
pub none_further : (rules : List Rule) (target : Target) (number : ℕ) (rule : Rule) → slice_get rules number ≡ Some rule
    → (nat_eq rule.target.place target.place && nat_eq rule.target.attr target.attr) ≡ false → NoneBefore rules target number
    → NoneBefore rules target (number + 1)
none_further rules target number rule there differs before n r less is gives = elim (cases_lt n number) [
  | inl earlier ↦ before n r earlier is gives
  | inr late ↦
      let same : n ≡ number = omega arith in
      let one : r ≡ rule = cc in
      let o = rule.target in
      both_ways (nat_eq o.place target.place && nat_eq o.attr target.attr) differs
      (and_from (nat_eq o.place target.place) (nat_eq o.attr target.attr) (eq-eqb o.place target.place (cc))
      (eq-eqb o.attr target.attr (cc)))
]

-- If no rule before a number is for the target, and the number does not fit two bytes, none of the first 65,536 rules is for it.
pub none_that_fits : {E : Type 0} (rules : List Rule) (target : Target) (number : ℕ) (converted : Result ℕ E)
    → NoneBefore rules target number → OkIff converted (number < 65536) number
    → IfNone (result_ok converted) (NoneBefore rules target 65536)
none_that_fits rules target number (Ok n) before is = tt
none_that_fits rules target number (Err e) before is = λ n r small there gives. before n r (omega arith) there gives

-- If no two rules have the same target, and the value of a rule for a target is not an error, no rule for it has an error.
pub no_other : (rules : List Rule) (e : Table) (target : Target) (number : ℕ) (rule : Rule)
    → DifferIn (λ (r : Rule). r.target) rules
    → slice_get rules number ≡ Some rule → rule.target ≡ target
    → fault_of (value_of rule.expr.tree (environment rule e)) ≡ None → HasNoError rules e target
no_other rules e target number rule single there gives clean other r small is same =
    let one : other ≡ number = single other number r rule is there (cc) in
    let it : r ≡ rule = cc in
    rw it clean

-- a rule that passes no error on, and in which no error arises, has a value that is not an error
pub clean_of : (r : Rule) (e : Table) → AnswersSource r e None → is_arising e r ≡ false
    → fault_of (value_of r.expr.tree (environment r e)) ≡ None
clean_of r e (inl clean) off = clean
clean_of r e (inr on) off = cc

-- places lead nowhere if a node on their way does not have the next child
pub leads_nowhere : {g h : Bor Grammar} {j k : Bor TreeIndex} {way : List ℕ} (places : List ℕ) (i : ℕ) → g ≡ h → j ≡ k
    → way ≡ take i places → i < length places → HasNoChildAt g.now j.now way (get_or places i 0) → LeadsNowhere h.now k.now places
leads_nowhere places i same_grammar same_index is less none = record {
  prefix = take i places;
  place = get_or places i 0;
  others = drop (suc i) places;
  split = split_at places i 0 less;
  none = rw (is, same_grammar, same_index) at none;
}

pub none_then : {X P Q : Type 0} (o : Option X) → (P → Q) → IfNone o P → IfNone o Q
none_then None further holds = further holds
none_then (Some x) further holds = tt
