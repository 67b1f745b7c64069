-- The invariant of the loop of `edges_of`.
use Rattle.llparse.proofs.Common.{take, Contains, is_marked, IsFollowEdge, Adds, IsFirstEdge, OfSome}
use Rattle.llparse.proofs.table.predict.edges_of.Given as goal

abbrev pub invariant-loop-at : goal.invariant-loop-at
invariant-loop-at l = record {
  first : Adds (OfSome (IsFirstEdge l.grammar (is_marked l.nullable)) (take l.at l.grammar.productions))
      (Contains l.initial.first.items) (Contains l.first.items);
  follow : Adds (OfSome (IsFollowEdge l.grammar (is_marked l.nullable)) (take l.at l.grammar.productions))
      (Contains l.initial.follow.items) (Contains l.follow.items);
}
