-- What follows from an accepted grammar and a legal assignment for a production.
use Rattle.std.specs.Prelude.{ℕ, ◌≤◌, length}
use Rattle.ag_grammar.specs.Lists.{DifferIn}
use Rattle.ag_grammar.specs.declared.grammar.Production.{Production}
use Rattle.ag_grammar.specs.grammars.Accepted.{max_attributes, max_rules, max_children}
use Rattle.ag_grammar.specs.grammars.AttributeGrammar.{item_at}
use Rattle.ag_grammar.specs.grammars.Passes.{Passes, HasPass, IsLegalFor, item_passes}
use Rattle.passcode.specs.Course.{arity}

-- The production can be planned, that is, `generate` can make its lists: the numbers of its children, of its rules and of the
-- attributes at each place are within the limits, at most one rule computes an attribute at a place, and each rule whose target
-- has a pass uses only arguments that it may use.
pub record IsPlanned (m : Passes) (q : Production) : Type 0 where
  pub places : arity q ≤ max_children
  pub rules : length q.rules ≤ max_rules
  pub attributes : (j : ℕ) → length (item_passes m (item_at q j)) ≤ max_attributes
  pub single : DifferIn (λ u. u.target) q.rules
  pub allowed : IsLegalFor (HasPass m) q
