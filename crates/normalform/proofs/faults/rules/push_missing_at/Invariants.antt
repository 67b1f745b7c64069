-- The invariant of the loop of `push_missing_at`.
use Rattle.normalform.proofs.Common.{◌≡◌, ◌-◌, ◌≤◌, map, range_with_len, missing_check}
use Rattle.normalform.specs.faults.FaultList.{after_checks}
use Rattle.normalform.proofs.faults.rules.push_missing_at.Given as goal

abbrev pub invariant-loop-attr : goal.invariant-loop-attr
invariant-loop-attr l = record {
  ordered : l.attr ≤ l.end;
  faults : after_checks l.faults (map (missing_check l.targets l.production l.place) (range_with_len l.attr (l.end - l.attr)))
      ≡ after_checks l.initial.faults
      (map (missing_check l.targets l.production l.place) (range_with_len l.first (l.end - l.first)));
}
