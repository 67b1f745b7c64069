-- The goal of `literals` that the tactic leaves open.
use Rattle.ag_grammar.proofs.accepted.Grammar.literals.Goals as goal

pub returns-clause-in_order : goal.returns-clause-in_order
returns-clause-in_order c = rw (← c.self.view_is) c.self.invariant.1.literals
