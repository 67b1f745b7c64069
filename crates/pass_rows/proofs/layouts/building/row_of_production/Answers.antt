use Rattle.pass_rows.proofs.Common.{◌∙◌, pass_setting}
use Rattle.pass_rows.proofs.places.Slotted.{row_is, rows_long, rows_low}
use Rattle.pass_rows.proofs.layouts.building.row_of_production.Goals as goal

pub slots_of_rules-requires-clause-starts : goal.slots_of_rules-requires-clause-starts
slots_of_rules-requires-clause-starts c =
    rw (c.as_slice.ensures, c.in_ok-places.ensures.rows)
    (rows_low (pass_setting c.args.setting.now) c.args.production.now c.requires.small c.requires.few)

pub slots_of_rules-requires-clause-within : goal.slots_of_rules-requires-clause-within
slots_of_rules-requires-clause-within c =
    rw (
      c.as_slice.ensures,
      c.in_ok-places.ensures.rows,
      rows_long (pass_setting c.args.setting.now) c.args.production.now,
      c.as_slice-2.ensures,
    ) c.requires.within

pub returns : goal.returns
returns c =
    row_is (pass_setting c.args.setting.now) c.args.number c.args.production.now
    (c.from_vec.ensures ∙ c.in_ok-to_vec.ensures.items_if_clones_equal (λ x y e. e) ∙ c.list_of.ensures)
    c.in_ok-places.ensures.width c.in_ok-passes.ensures c.in_ok-places.ensures.rows c.requires.within
    (rw (c.as_slice.ensures, c.as_slice-2.ensures) at c.in_ok-rules.ensures)
