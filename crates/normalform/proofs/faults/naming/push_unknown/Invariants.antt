-- The invariant of the loop of `push_unknown`.
use Rattle.normalform.proofs.Common.{◌≡◌, drop, flat_map, unknown_in}
use Rattle.normalform.specs.faults.FaultList.{after_checks}
use Rattle.normalform.proofs.faults.naming.push_unknown.Given as goal

abbrev pub invariant-loop-production : goal.invariant-loop-production
invariant-loop-production l =
    after_checks l.faults (flat_map (unknown_in l.declared) (drop l.production-index l.productions))
    ≡ after_checks l.initial.faults (flat_map (unknown_in l.declared) l.productions)
