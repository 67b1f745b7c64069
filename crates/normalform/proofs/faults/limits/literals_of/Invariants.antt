-- The invariant of the loop of `literals_of`.
use Rattle.normalform.proofs.Common.{◌≡◌, fold, take, [], with_production}
use Rattle.normalform.proofs.faults.limits.literals_of.Given as goal

abbrev pub invariant-loop-production : goal.invariant-loop-production
invariant-loop-production l = l.texts ≡ fold with_production [] (take l.production-index l.productions)
