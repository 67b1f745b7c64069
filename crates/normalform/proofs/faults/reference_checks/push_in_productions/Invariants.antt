-- The invariant of the loop of `push_in_productions`.
use Rattle.normalform.proofs.Common.{◌≡◌, drop, reference_checks}
use Rattle.normalform.specs.faults.FaultList.{after_checks}
use Rattle.normalform.proofs.faults.reference_checks.push_in_productions.Given as goal

abbrev pub invariant-loop-production : goal.invariant-loop-production
invariant-loop-production l =
    after_checks l.faults (reference_checks l.rule_check (drop l.production-index l.productions))
    ≡ after_checks l.initial.faults (reference_checks l.rule_check l.productions)
