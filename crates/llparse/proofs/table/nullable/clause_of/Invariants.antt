-- The invariant of the loop of `clause_of`.
use Rattle.llparse.proofs.Common.{◌≡◌, map, take, node_of}
use Rattle.llparse.proofs.table.nullable.clause_of.Given as goal

abbrev pub invariant-loop-item : goal.invariant-loop-item
invariant-loop-item l = l.body.items ≡ map (node_of l.sizes.symbols l.sizes.literals) (take l.item-index l.item-items)
