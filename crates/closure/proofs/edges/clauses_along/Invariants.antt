-- The invariant of the loop of `clauses_along`.
use Rattle.std.proofs.Common.{◌≡◌, map, take}
use Rattle.closure.specs.Edges.{clause_of_edge}
use Rattle.closure.proofs.edges.clauses_along.Given as goal

abbrev pub invariant-loop-edge : goal.invariant-loop-edge
invariant-loop-edge l = l.clauses.items ≡ map clause_of_edge (take l.edge-index l.edges)
