-- The invariant of the loop of `push_doubled`.
use Rattle.normalform.proofs.Common.{◌≡◌, drop, checks_along, doubled_checks, symbol_checks, with_symbol}
use Rattle.normalform.specs.faults.FaultList.{after_checks}
use Rattle.normalform.proofs.faults.naming.push_doubled.Given as goal

abbrev pub invariant-loop-symbol : goal.invariant-loop-symbol
invariant-loop-symbol l =
    after_checks l.faults (checks_along symbol_checks with_symbol l.seen (drop l.symbol-index l.symbols))
    ≡ after_checks l.initial.faults (doubled_checks l.symbols)
