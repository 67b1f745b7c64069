-- The invariant of the loop of `push_edges`.
use Rattle.normalform.proofs.Common.{◌≡◌, ◌++◌, map, take, edge}
use Rattle.normalform.proofs.faults.clause.push_edges.Given as goal

abbrev pub invariant-loop-symbol : goal.invariant-loop-symbol
invariant-loop-symbol l = l.edges.items ≡ l.initial.edges.items ++ map (edge l.clause.head) (take l.symbol-index l.symbol-items)
