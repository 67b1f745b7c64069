-- The certificate of the grammar `both_ways`, whose productions need both directions.
use Rattle.passassign.proofs.Common
use Common.{ℕ, ◌+◌, ◌≡◌, inl, inr, [], ◌∷◌, refl, ap, arith, Each, Differ, Rule, Target, Synthesized, Direction, LeftToRight}
use Common.{RightToLeft, Members, IsStruckBy, IsGood, StrikesAll, IsCertificate, IsAlternating}
use Rattle.ag_grammar.specs.grammars.Sample.{attribute, both_ways, copy_rule, s_name, production_r, production_back, rule_out}
use Rattle.ag_grammar.specs.grammars.Sample.{rule_first, rule_second}
use Rattle.ag_grammar.proofs.grammars.Members.{both, pair, each_more, differ_more}
use Rattle.passassign.specs.Sample.{strike, strikes_by, both_ways_stuck, exchanged}
use Rattle.passassign.proofs.making.Rest.{members_stuck}
use Rattle.passassign.proofs.strikes.Exactly.{strikes_all}
use Rattle.passassign.proofs.strikes.Sample.{no_reason, others_good}
use Rattle.passassign.proofs.making.Whole.{stuck_refused}

all_struck : (p r : ℕ) → Each (λ x. IsStruckBy (strikes_by p r) x.0 x.1) both_ways_stuck.set
all_struck p r =
    each_more (λ x. IsStruckBy (strikes_by p r) x.0 x.1) (0, 0) ((1, 0) ∷ (1, 1) ∷ []) (inr (inr (inl (refl, refl))))
    (both (λ x. IsStruckBy (strikes_by p r) x.0 x.1) (1, 0) (1, 1) (inr (inl (refl, refl))) (inl (refl, refl)))

all_of : (d : Direction) (p r : ℕ) → IsGood both_ways d (Members both_ways_stuck.set) [] (strike 1 1 p r)
    → StrikesAll both_ways d (Members both_ways_stuck.set) (strikes_by p r)
all_of d p r first =
    strikes_all both_ways d (Members both_ways_stuck.set) (strikes_by p r) (
      (2, refl),
      (λ i. i),
      first,
      others_good both_ways (rule_first ∷ rule_second ∷ []) refl refl d (Members both_ways_stuck.set) p r (1, refl) (0, refl),
    )
    (λ s a i. all_struck p r i.0 (s, a) i.1)

apart : (x y : ℕ × ℕ) → (x.0 + x.1 ≡ y.0 + y.1 → ⊥) → x ≡ y → ⊥
apart x y h e = h cc

single : Differ both_ways_stuck.set
single =
    differ_more (λ x. x) (0, 0) ((1, 0) ∷ (1, 1) ∷ [])
    (both (λ y. (0, 0) ≡ y → ⊥) (1, 0) (1, 1) (apart (0, 0) (1, 0) (λ e. omega arith)) (apart (0, 0) (1, 1) (λ e. omega arith)))
    (pair (λ x. x) (1, 0) (1, 1) (apart (1, 0) (1, 1) (λ e. omega arith)))

pub both_ways_certified : IsCertificate both_ways both_ways_stuck
both_ways_certified = record {
  some = ((0, 0), (0, refl));
  single = single;
  odd = all_of RightToLeft 2 2
      (record {
        production = production_back;
        rule = copy_rule (attribute 2 1) 1 s_name 0;
        argument = attribute 1 0;
        is_production = refl;
        is_rule = refl;
        is_argument = refl;
        symbol = refl;
        attr = refl;
        reason = inr ((omega arith, omega arith, inr (omega arith)), (1, refl));
      });
  even = all_of LeftToRight 0 1
      (record {
        production = production_r (rule_out ∷ rule_first ∷ rule_second ∷ []);
        rule = rule_first;
        argument = attribute 2 0;
        is_production = refl;
        is_rule = refl;
        is_argument = refl;
        symbol = refl;
        attr = refl;
        reason = inr ((omega arith, omega arith, inr (omega arith)), (1, refl));
      });
}

pub both_ways_refused : IsAlternating both_ways → ⊥
both_ways_refused =
    stuck_refused both_ways 0 0 (Synthesized, refl) (members_stuck both_ways both_ways_stuck both_ways_certified 0 0 (0, refl))

pub exchanged_refused : IsCertificate both_ways exchanged → ⊥
exchanged_refused h =
    let one = h.odd.good.2 in
    let first = production_r (rule_out ∷ rule_first ∷ rule_second ∷ []) in
    let q : first ≡ one.production = cc one.is_production in
    let r : rule_first ≡ one.rule = cc (rw (← q) at one.is_rule) in
    let o : attribute 2 0 ≡ one.argument = cc (rw (← r) at one.is_argument) in
    let target : 1 ≡ one.rule.target.place = ap (λ (r : Rule). r.target.place) r in
    let place : 2 ≡ one.argument.place = ap (λ (o : Target). o.place) o in
    no_reason RightToLeft (Members exchanged.set) one.production one.rule.target.place one.argument (λ pos e. omega arith)
    (λ pos b. omega arith) one.reason
