-- The invariant of the loop of `clauses_of`.
use Rattle.normalform.proofs.Common.{◌≡◌, take, clauses_of}
use Rattle.normalform.proofs.faults.clause.clauses_of.Given as goal

abbrev pub invariant-loop-production : goal.invariant-loop-production
invariant-loop-production l = l.clauses.items ≡ clauses_of l.declared (take l.production-index l.productions)
