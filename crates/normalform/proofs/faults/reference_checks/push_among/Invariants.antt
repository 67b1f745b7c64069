-- The invariant of the loop of `push_among`.
use Rattle.normalform.proofs.Common.{◌≡◌, drop, map, reference_check}
use Rattle.normalform.specs.faults.FaultList.{after_checks}
use Rattle.normalform.proofs.faults.reference_checks.push_among.Given as goal

abbrev pub invariant-loop-reference : goal.invariant-loop-reference
invariant-loop-reference l =
    after_checks l.faults (map (reference_check l.rule_check) (drop l.reference-index l.references))
    ≡ after_checks l.initial.faults (map (reference_check l.rule_check) l.references)
