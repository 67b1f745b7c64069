use Rattle.ag_grammar.proofs.Common.{◌≡◌, ◌++◌, drop, places_of, stored_items}
use Rattle.ag_grammar.proofs.grammar.Production.places.Given as goal

abbrev pub invariant-loop-item : goal.invariant-loop-item
invariant-loop-item l = l.places.items ++ stored_items (drop l.item-index l.self.items) ≡ places_of l.self
