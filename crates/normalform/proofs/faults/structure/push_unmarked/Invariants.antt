-- The invariant of the loop of `push_unmarked`.
use Rattle.normalform.proofs.Common.{◌≡◌, drop, checks_along, next_index}
use Rattle.normalform.specs.faults.FaultList.{after_checks}
use Rattle.normalform.specs.faults.AllFaults.{marked_check, marked_checks}
use Rattle.normalform.proofs.faults.structure.push_unmarked.Given as goal

abbrev pub invariant-loop-number : goal.invariant-loop-number
invariant-loop-number l =
    after_checks l.faults (checks_along (marked_check l.symbol_check l.marks) next_index l.number (drop l.number l.symbols))
    ≡ after_checks l.initial.faults (marked_checks l.symbol_check l.marks l.symbols)
