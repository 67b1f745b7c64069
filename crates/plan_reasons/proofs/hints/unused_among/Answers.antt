use Rattle.std.proofs.Common.{ℕ}
use Rattle.plan_reasons.specs.Hints.{IsUnused}
use Rattle.plan_reasons.proofs.Listed.{all_so}
use Rattle.plan_reasons.proofs.hints.unused_among.Goals as goal

pub loop-attribute-preserved : goal.loop-attribute-preserved
loop-attribute-preserved c =
    all_so (λ (x : ℕ × ℕ). IsUnused c.args.grammar.now x.0 x.1) c.loop-attribute.unused.items c.append_unused.new.unused.items
    c.loop-attribute.invariant c.in_ok-append_unused.ensures
