use Rattle.planchecker.proofs.Loops.{Prefix}
use Rattle.plan_reasons.specs.Hints.{IsUnusedBy}
use Rattle.plan_reasons.proofs.uses.is_unused_in.Given as goal

abbrev pub invariant-loop-rule : goal.invariant-loop-rule
invariant-loop-rule l = Prefix (λ i u. IsUnusedBy l.production l.attribute.0 l.attribute.1 u) l.production.rules l.rule-index
