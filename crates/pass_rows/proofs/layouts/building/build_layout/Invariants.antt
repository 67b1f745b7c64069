use Rattle.pass_rows.proofs.Common.{◌≡◌, ◌++◌, drop, pass_setting, layout_of, rows_from}
use Rattle.pass_rows.proofs.layouts.building.build_layout.Given as goal

abbrev pub invariant-loop-number : goal.invariant-loop-number
invariant-loop-number l =
    l.rows.items ++ rows_from (pass_setting l.setting) l.number (drop l.number l.setting.grammar.now.productions) ≡ layout_of
    (pass_setting l.setting)
