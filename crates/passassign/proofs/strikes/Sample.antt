-- Strikes in the sample grammars.
use Rattle.passassign.proofs.Common
use Common.{ℕ, ◌≡◌, ◌≤◌, inl, inr, List, [], ◌∷◌, refl, arith, Production, Rule, Target, Grammar, IsProduction, item_at}
use Common.{Direction, IsBefore, Attributes, IsStruckBy, IsReason, AreGood}
use Rattle.ag_grammar.specs.grammars.Sample.{attribute, production_r, production_a, rule_out, rule_s}
use Rattle.passassign.specs.Sample.{strike}
use Rattle.passassign.proofs.strikes.Reasons.{one_is}

-- if no attribute is struck yet, an argument that is neither at the target's child nor at a later one is not
-- a reason
pub no_reason : (d : Direction) (candidate : Attributes) (q : Production) (j : ℕ) (o : Target) → (1 ≤ j → o.place ≡ j → ⊥)
    → (1 ≤ j → IsBefore d j o.place → ⊥) → IsReason d candidate [] q j o → ⊥
no_reason d candidate q j o own later (inl i) = (one_is (IsStruckBy []) (item_at q o.place) o.attr i).2
no_reason d candidate q j o own later (inr ((pos, some, w), i)) = elim w [ inl e ↦ own pos e | inr b ↦ later pos b ]

-- if A.i is struck, so are A.s and R.out
pub others_good : (g : Grammar) (rules : List Rule) → IsProduction g 0 (production_r (rule_out ∷ rules))
    → IsProduction g 1 production_a → (d : Direction) (candidate : Attributes) (p r : ℕ) → candidate 1 0 → candidate 0 0
    → AreGood g d candidate (strike 1 1 p r ∷ []) (strike 1 0 1 0 ∷ strike 0 0 0 0 ∷ [])
others_good g rules first second d candidate p r s out = (
  s,
  (λ i. elim i [ inl e ↦ omega (arith, e.1) | inr i ↦ i ]),
  record {
    production = production_a;
    rule = rule_s;
    argument = attribute 0 1;
    is_production = second;
    is_rule = refl;
    is_argument = refl;
    symbol = refl;
    attr = refl;
    reason = inl (inl (refl, refl));
  },
  (
    out,
    (λ i. elim i [ inl e ↦ omega (arith, e.0) | inr (inl e) ↦ omega (arith, e.0) | inr (inr i) ↦ i ]),
    record {
      production = production_r (rule_out ∷ rules);
      rule = rule_out;
      argument = attribute 1 0;
      is_production = first;
      is_rule = refl;
      is_argument = refl;
      symbol = refl;
      attr = refl;
      reason = inl (inl (refl, refl));
    },
    tt,
  ),
)
