-- The invariant of the loop of `push_missing`.
use Rattle.normalform.proofs.Common.{◌≡◌, drop, checks_along, missing_checks, missing_in, next_index}
use Rattle.normalform.specs.faults.FaultList.{after_checks}
use Rattle.normalform.proofs.faults.rules.push_missing.Given as goal

abbrev pub invariant-loop-number : goal.invariant-loop-number
invariant-loop-number l =
    after_checks l.faults (checks_along (missing_in l.declared) next_index l.number (drop l.number l.productions))
    ≡ after_checks l.initial.faults (missing_checks l.declared l.productions)
