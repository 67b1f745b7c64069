use Rattle.planchecker.proofs.Common.{passes_of, IsAllowed}
use Rattle.planchecker.proofs.Loops.{Prefix}
use Rattle.planchecker.proofs.legality.first_illegal_rule.Given as goal

abbrev pub invariant-loop-index : goal.invariant-loop-index
invariant-loop-index l = Prefix (λ i u. IsAllowed (passes_of l.assignment) l.production u) l.production.rules l.index
