-- The invariant of the loop of `references_of`.
use Rattle.normalform.proofs.Common.{◌≡◌, ◌++◌, drop, flat_map, map, item_placed, references_of}
use Rattle.normalform.proofs.faults.resolving.references_of.Given as goal

abbrev pub invariant-loop-rule : goal.invariant-loop-rule
invariant-loop-rule l =
    l.references.items ++ flat_map (references_of l.declared (map item_placed l.items)) (drop l.rule-index l.rules)
    ≡ flat_map (references_of l.declared (map item_placed l.items)) l.rules
