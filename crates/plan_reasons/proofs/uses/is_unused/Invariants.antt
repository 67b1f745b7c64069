use Rattle.planchecker.proofs.Loops.{Prefix}
use Rattle.plan_reasons.specs.Hints.{IsUnusedIn}
use Rattle.plan_reasons.proofs.uses.is_unused.Given as goal

abbrev pub invariant-loop-production : goal.invariant-loop-production
invariant-loop-production l = Prefix (λ i q. IsUnusedIn l.attribute.0 l.attribute.1 q) l.grammar.productions l.production-index
