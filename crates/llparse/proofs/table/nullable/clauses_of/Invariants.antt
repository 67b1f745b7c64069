-- The invariant of the loop of `clauses_of`.
use Rattle.llparse.proofs.Common.{◌≡◌, map, take, clause_of}
use Rattle.llparse.proofs.table.nullable.clauses_of.Given as goal

abbrev pub invariant-loop-production : goal.invariant-loop-production
invariant-loop-production l =
    l.clauses.items ≡ map (clause_of l.sizes.symbols l.sizes.literals) (take l.production-index l.production-items)
