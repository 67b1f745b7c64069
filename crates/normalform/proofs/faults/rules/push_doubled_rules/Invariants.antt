-- The invariant of the loop of `push_doubled_rules`.
use Rattle.normalform.proofs.Common.{◌≡◌, drop, doubled_rules}
use Rattle.normalform.specs.faults.FaultList.{after_checks}
use Rattle.normalform.proofs.faults.rules.push_doubled_rules.Given as goal

abbrev pub invariant-loop-production : goal.invariant-loop-production
invariant-loop-production l =
    after_checks l.faults (doubled_rules (drop l.production-index l.productions))
    ≡ after_checks l.initial.faults (doubled_rules l.productions)
