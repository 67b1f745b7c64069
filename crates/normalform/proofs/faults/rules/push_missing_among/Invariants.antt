-- The invariant of the loop of `push_missing_among`.
use Rattle.normalform.proofs.Common.{◌≡◌, drop, map, item_placed, checks_along, next_index, missing_at}
use Rattle.normalform.specs.faults.FaultList.{after_checks}
use Rattle.normalform.proofs.faults.rules.push_missing_among.Given as goal

abbrev pub invariant-loop-place : goal.invariant-loop-place
invariant-loop-place l =
    after_checks l.faults
    (checks_along (missing_at l.declared l.targets l.production) next_index l.place (drop l.place (map item_placed l.items)))
    ≡ after_checks l.initial.faults
    (checks_along (missing_at l.declared l.targets l.production) next_index 0 (map item_placed l.items))
