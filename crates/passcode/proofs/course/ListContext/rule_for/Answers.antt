use Rattle.passcode.proofs.Common.{◌≤◌, length, subst, sym, ◌∙◌, is_same}
use Rattle.passcode.proofs.Loops.{before_more, first_is, none_is}
use Rattle.passcode.proofs.Slices.{read_at}
use Rattle.passcode.proofs.course.ListContext.rule_for.Goals as goal

pub returns-then-is_same : goal.returns-then-is_same
returns-then-is_same c =
    sym (first_is (λ u. is_same u.target c.args.target) _ _ c.loop-number.invariant _
    (read_at _ _ _ _ c.as_slice-rule-items.ensures c.loop-number-test.true c.rule-item.is)
    (sym c.is_same.ensures ∙ c.if-is_same.true))

pub loop-number-preserved : goal.loop-number-preserved
loop-number-preserved c =
    before_more (λ u. is_same u.target c.args.target) _ _ c.loop-number.invariant _
    (read_at _ _ _ _ c.as_slice-rule-items.ensures c.loop-number-test.true c.rule-item.is)
    (sym c.is_same.ensures ∙ c.if-is_same.false)

pub returns : goal.returns
returns c =
    sym (none_is (λ u. is_same u.target c.args.target) _ _ c.loop-number.invariant
    (subst (λ xs. length xs ≤ c.loop-number.number) c.as_slice-rule-items.ensures c.loop-number-test.false))
