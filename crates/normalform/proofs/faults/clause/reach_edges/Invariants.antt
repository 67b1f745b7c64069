-- The invariant of the loop of `reach_edges`.
use Rattle.normalform.proofs.Common.{◌≡◌, ◌++◌, drop, flat_map, reach_edges, edges_of}
use Rattle.normalform.proofs.faults.clause.reach_edges.Given as goal

abbrev pub invariant-loop-clause : goal.invariant-loop-clause
invariant-loop-clause l = l.edges.items ++ flat_map edges_of (drop l.clause-index l.clauses) ≡ reach_edges l.clauses
