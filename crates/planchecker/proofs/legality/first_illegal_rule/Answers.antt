use Rattle.planchecker.proofs.Common.{read_at}
use Rattle.planchecker.proofs.Loops.{first_not, prefix_more, prefix_whole, is_no, is_yes}
use Rattle.planchecker.proofs.legality.first_illegal_rule.Goals as goal

pub returns-then-not-is_allowed : goal.returns-then-not-is_allowed
returns-then-not-is_allowed c =
    first_not _ _ _ _ (read_at _ _ _ _ c.as_slice-rule-items.ensures c.loop-index-test.true c.rule-item.is)
    c.loop-index.invariant (is_no c.if-not-is_allowed.ensures)

pub loop-index-preserved : goal.loop-index-preserved
loop-index-preserved c =
    prefix_more _ _ _ _ (read_at _ _ _ _ c.as_slice-rule-items.ensures c.loop-index-test.true c.rule-item.is)
    c.loop-index.invariant (is_yes c.if-not-is_allowed.ensures)

pub returns : goal.returns
returns c = prefix_whole _ _ _ (rw c.as_slice-rule-items.ensures at c.loop-index-test.false) c.loop-index.invariant
