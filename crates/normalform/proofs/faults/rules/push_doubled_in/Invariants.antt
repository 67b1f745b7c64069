-- The invariant of the loop of `push_doubled_in`.
use Rattle.normalform.proofs.Common.{◌≡◌, drop, [], checks_along, with_reference, new_target}
use Rattle.normalform.specs.faults.FaultList.{after_checks}
use Rattle.normalform.proofs.faults.rules.push_doubled_in.Given as goal

abbrev pub invariant-loop-reference : goal.invariant-loop-reference
invariant-loop-reference l =
    after_checks l.faults (checks_along new_target with_reference l.targets (drop l.reference-index l.references))
    ≡ after_checks l.initial.faults (checks_along new_target with_reference [] l.references)
