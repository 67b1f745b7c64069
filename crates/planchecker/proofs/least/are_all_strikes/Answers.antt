use Rattle.planchecker.proofs.Common.{ap, ◌∙◌, sym, Some, slice_get-get_or}
use Rattle.planchecker.proofs.Loops.{prefix_more, prefix_whole, is_yes, says_yes}
use Rattle.planchecker.proofs.least.are_all_strikes.Goals as goal

pub loop-index-preserved : goal.loop-index-preserved
loop-index-preserved c =
    prefix_more _ _ _ _
    (slice_get-get_or c.args.lists.now _ _ c.loop-index-test.true ∙ ap Some (sym c.index-lists-index.is ∙ sym c.as_slice.ensures))
    c.loop-index.invariant (is_yes c.if-not-are_strikes_at.ensures)

pub returns : goal.returns
returns c = says_yes (prefix_whole _ _ _ c.loop-index-test.false c.loop-index.invariant)
