use Rattle.ag_grammar.specs.declared.grammar.Target.{Target}
use Rattle.planchecker.proofs.Loops.{Prefix}
use Rattle.plan_reasons.specs.Hints.{IsAttributeAt}
use Rattle.plan_reasons.proofs.uses.is_unused_by.Given as goal

abbrev pub invariant-loop-argument : goal.invariant-loop-argument
invariant-loop-argument l =
    Prefix (λ i (o : Target). IsAttributeAt l.production o l.attribute.0 l.attribute.1 → ⊥) l.argument-items l.argument-index
