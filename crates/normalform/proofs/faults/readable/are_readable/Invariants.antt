-- The invariant of the loop of `are_readable`.
use Rattle.normalform.proofs.Common.{◌≡◌, drop, list_all, readable_in}
use Rattle.normalform.proofs.faults.readable.are_readable.Given as goal

abbrev pub invariant-loop-production : goal.invariant-loop-production
invariant-loop-production l = list_all readable_in (drop l.production-index l.productions) ≡ list_all readable_in l.productions
