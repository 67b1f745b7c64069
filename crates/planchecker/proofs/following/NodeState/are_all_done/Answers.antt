use Rattle.planchecker.proofs.Common.{refl, read_at}
use Rattle.planchecker.proofs.Loops.{prefix_more, prefix_whole, is_no, is_yes, says_no, says_yes}
use Rattle.planchecker.proofs.following.NodeState.are_all_done.Goals as goal

pub returns-then-not-is_done : goal.returns-then-not-is_done
returns-then-not-is_done c =
    says_no (λ done. is_no c.if-not-is_done.ensures (done _ _ _
    (read_at _ _ _ _ c.as_slice-rule-items.ensures c.loop-number-test.true c.rule-item.is) refl))

pub loop-number-preserved : goal.loop-number-preserved
loop-number-preserved c =
    prefix_more _ _ _ _ (read_at _ _ _ _ c.as_slice-rule-items.ensures c.loop-number-test.true c.rule-item.is)
    c.loop-number.invariant (is_yes c.if-not-is_done.ensures)

pub returns : goal.returns
returns c = says_yes
    (λ j r u at place. prefix_whole _ _ _ (rw c.as_slice-rule-items.ensures at c.loop-number-test.false) c.loop-number.invariant
    r u at)
