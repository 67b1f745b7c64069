use Rattle.llparse.proofs.Common.{take, Contains, IsFollowSeed, Adds, OfSome, is_marked}
use Rattle.llparse.proofs.table.follow.follow_seeds.Given as goal

abbrev pub invariant-loop-at : goal.invariant-loop-at
invariant-loop-at l =
    Adds (OfSome (IsFollowSeed l.grammar (is_marked l.nullable) (is_marked l.in_first)) (take l.at l.grammar.productions))
    (Contains l.initial.seeds.items) (Contains l.seeds.items)
