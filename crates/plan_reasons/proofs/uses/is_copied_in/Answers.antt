use Rattle.std.proofs.Common.{◌≤◌, length, subst}
use Rattle.passcode.proofs.Slices.{read_at}
use Rattle.planchecker.proofs.Loops.{prefix_more, prefix_whole, is_no, is_yes, says_no, says_yes}
use Rattle.plan_reasons.specs.Hints.{IsCopiedBy}
use Rattle.plan_reasons.proofs.uses.is_copied_in.Goals as goal

pub loop-rule-preserved : goal.loop-rule-preserved
loop-rule-preserved c =
    prefix_more (λ i u. IsCopiedBy c.args.production.now c.args.attribute.0 c.args.attribute.1 u) c.args.production.now.rules
    c.loop-rule.rule-index c.rule-item.result
    (read_at c.args.production.now.rules c.as_slice-rule-items.result.now c.loop-rule.rule-index c.rule-item.result
    c.as_slice-rule-items.ensures c.loop-rule-test.true c.rule-item.is) c.loop-rule.invariant
    (is_yes c.if-not-is_copied_by.ensures)

pub returns-then-not-is_copied_by : goal.returns-then-not-is_copied_by
returns-then-not-is_copied_by c =
    says_no (λ h. is_no c.if-not-is_copied_by.ensures (h c.loop-rule.rule-index c.rule-item.result
    (read_at c.args.production.now.rules c.as_slice-rule-items.result.now c.loop-rule.rule-index c.rule-item.result
    c.as_slice-rule-items.ensures c.loop-rule-test.true c.rule-item.is)))

pub returns : goal.returns
returns c =
    says_yes
    (prefix_whole (λ i u. IsCopiedBy c.args.production.now c.args.attribute.0 c.args.attribute.1 u) c.args.production.now.rules
    c.loop-rule.rule-index
    (subst (λ xs. length xs ≤ c.loop-rule.rule-index) c.as_slice-rule-items.ensures c.loop-rule-test.false) c.loop-rule.invariant)
