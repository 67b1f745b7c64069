use Rattle.pass_rows.proofs.Common.{◌≡◌, ◌++◌, drop, flat_map, pass_setting, copied_passes, row_passes}
use Rattle.pass_rows.proofs.layouts.rows.row_passes.Given as goal

abbrev pub invariant-loop-item : goal.invariant-loop-item
invariant-loop-item l =
    l.passes.items ++ flat_map (copied_passes (pass_setting l.setting)) (drop l.item-index l.production.items)
    ≡ row_passes (pass_setting l.setting) l.production
