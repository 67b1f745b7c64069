-- The invariant of the loop of `push_arguments`.
use Rattle.normalform.proofs.Common.{◌≡◌, ◌++◌, false, map, take, item_placed, reference_of}
use Rattle.normalform.proofs.faults.resolving.push_arguments.Given as goal

abbrev pub invariant-loop-occurrence : goal.invariant-loop-occurrence
invariant-loop-occurrence l =
    l.references.items ≡ l.initial.references.items
    ++ map (reference_of l.declared (map item_placed l.items) false) (take l.occurrence-index l.occurrences)
