use Rattle.planchecker.proofs.Common.{slice_get-get_or}
use Rattle.planchecker.proofs.Loops.{prefix_more, prefix_whole, is_no, is_yes, says_no, says_yes}
use Rattle.planchecker.proofs.least.is_row_struck.Goals as goal

pub returns-then-not-is_struck_if_later : goal.returns-then-not-is_struck_if_later
returns-then-not-is_struck_if_later c =
    says_no (λ h. is_no c.if-not-is_struck_if_later.ensures (h _ _ (slice_get-get_or c.args.row.now _ 0 c.loop-attr-test.true)))

pub loop-attr-preserved : goal.loop-attr-preserved
loop-attr-preserved c =
    prefix_more _ _ _ _ (slice_get-get_or c.args.row.now _ 0 c.loop-attr-test.true) c.loop-attr.invariant
    (is_yes c.if-not-is_struck_if_later.ensures)

pub returns : goal.returns
returns c = says_yes (prefix_whole _ _ _ c.loop-attr-test.false c.loop-attr.invariant)
