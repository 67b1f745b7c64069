use Rattle.std.proofs.Common.{ℕ}
use Rattle.plan_reasons.specs.Hints.{IsCopied}
use Rattle.plan_reasons.proofs.Listed.{all_so}
use Rattle.plan_reasons.proofs.hints.copied_among.Goals as goal

pub loop-attribute-preserved : goal.loop-attribute-preserved
loop-attribute-preserved c =
    all_so (λ (x : ℕ × ℕ). IsCopied c.args.grammar.now x.0 x.1) c.loop-attribute.copied.items c.append_copied.new.copied.items
    c.loop-attribute.invariant c.in_ok-append_copied.ensures
