use Rattle.passassign.proofs.Common.{◌≡◌, map, take, target_of}
use Rattle.passassign.proofs.search.target_slots.Given as goal

abbrev pub invariant-loop-one : goal.invariant-loop-one
invariant-loop-one l = l.targets.items ≡ map target_of (take l.one-index l.dependencies)
