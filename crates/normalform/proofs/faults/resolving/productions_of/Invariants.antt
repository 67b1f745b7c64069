-- The invariant of the loop of `productions_of`.
use Rattle.normalform.proofs.Common.{◌≡◌, map, take, resolved_production}
use Rattle.normalform.proofs.faults.resolving.productions_of.Given as goal

abbrev pub invariant-loop-production : goal.invariant-loop-production
invariant-loop-production l = l.resolved.items ≡ map (resolved_production l.declared) (take l.production-index l.productions)
