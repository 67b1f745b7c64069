use Rattle.pass_rows.proofs.Common
use Common.{◌∙◌, pass_setting, copied_passes}
use Common.item
use Rattle.pass_rows.proofs.Recorded.{passes_more, passes_whole}
use Rattle.pass_rows.proofs.layouts.rows.row_passes.Goals as goal

pub loop-item-init : goal.loop-item-init
loop-item-init c = cc (c.in_ok-passes.ensures.items_if_clones_equal (λ x y e. e), c.passes_at.ensures)

pub loop-item-preserved : goal.loop-item-preserved
loop-item-preserved c =
    passes_more (copied_passes (pass_setting c.args.setting.now)) c.loop-item.passes.items c.loop-item.item-index (item.Symbol 0)
    c.as_slice-item-items.ensures c.loop-item-test.true c.loop-item.invariant c.copied_passes.ensures
    c.in_ok-extend_from_slice.ensures.items

pub returns : goal.returns
returns c =
    c.from_vec.ensures ∙ passes_whole (copied_passes (pass_setting c.args.setting.now)) c.loop-item.passes.items
    c.loop-item.item-index c.as_slice-item-items.ensures c.loop-item-test.false c.loop-item.invariant
