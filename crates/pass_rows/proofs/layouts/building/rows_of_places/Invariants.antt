use Rattle.pass_rows.proofs.Common
use Common.{◌≡◌, ◌+◌, ◌*◌, ◌≤◌, ◌++◌, drop, stored_items, pass_setting, place_rows, rows_after, copied_all, stored_width}
use Rattle.pass_rows.proofs.layouts.building.rows_of_places.Given as goal

abbrev pub invariant-loop-item : goal.invariant-loop-item
invariant-loop-item l = record {
  rows : l.rows.items ++ rows_after (pass_setting l.setting) l.start
      (drop l.item-index (stored_items l.production.items)) ≡ place_rows (pass_setting l.setting) l.production;
  width : l.start + copied_all (pass_setting l.setting) (drop l.item-index (stored_items l.production.items))
      ≡ stored_width (pass_setting l.setting) l.production;
  low : l.start ≤ 16 * (l.item-index + 1);
}
