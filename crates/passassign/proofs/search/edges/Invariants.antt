use Rattle.passassign.proofs.Common.{◌≡◌, map, take, edge_of}
use Rattle.passassign.proofs.search.edges.Given as goal

abbrev pub invariant-loop-one : goal.invariant-loop-one
invariant-loop-one l = l.edges.items ≡ map edge_of (take l.one-index l.all)
