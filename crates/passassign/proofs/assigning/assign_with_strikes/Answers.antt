use Rattle.passassign.proofs.Common.{ℕ, List, IfOk-weaker, Grammar, IsAcceptedWith, AreWithinMaxPasses}
use Rattle.passassign.specs.declared.stuck.Strikes.{Strikes}
use Rattle.passassign.proofs.assigning.assign_with_strikes.Goals as goal

pub assign_all-requires-clause-accepted : goal.assign_all-requires-clause-accepted
assign_all-requires-clause-accepted c = (
  c.args.grammar.now,
  record {
    accepted = c.symbols.ensures.accepted;
    symbols_are = cc;
    productions_are = cc;
  },
)

pub returns-clause-few : goal.returns-clause-few
returns-clause-few c =
    IfOk-weaker c.assign_all.result
    (λ (x : List (List ℕ) × Strikes). (g : Grammar) → IsAcceptedWith c.symbols.result.now c.productions.result.now g
    → AreWithinMaxPasses x.0) (λ (x : List (List ℕ) × Strikes). AreWithinMaxPasses x.0)
    (λ x few. few c.args.grammar.now
    (record {
      accepted = c.symbols.ensures.accepted;
      symbols_are = cc;
      productions_are = cc;
    })) c.assign_all.ensures.few
