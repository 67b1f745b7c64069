-- The invariant of the loop of `known_prefix_len`.
use Rattle.std.proofs.Common.{◌≡◌, true, take}
use Rattle.closure.specs.Following.{is_marked}
use Rattle.std.specs.List.{list_all}
use Rattle.closure.proofs.search.known_prefix_len.Given as goal

abbrev pub invariant-loop-at : goal.invariant-loop-at
invariant-loop-at l = list_all (is_marked l.marks) (take l.at l.body) ≡ true
