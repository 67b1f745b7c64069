use Rattle.std.proofs.Common.{ℕ}
use Rattle.plan_reasons.specs.Hints.{IsCopied}
use Rattle.plan_reasons.proofs.Listed.{had_or_new}
use Rattle.planchecker.proofs.Loops.{is_yes}
use Rattle.plan_reasons.proofs.hints.append_copied.Goals as goal

pub returns : goal.returns
returns c =
    had_or_new (λ (x : ℕ × ℕ). IsCopied c.args.grammar.now x.0 x.1) c.args.copied.now.items c.push.new.self.items c.args.attribute
    c.in_ok-push.ensures.items (is_yes c.if-not-is_copied.ensures)
