use Rattle.pass_rows.proofs.Common.{ap, length, arith, pass_setting}
use Rattle.pass_rows.proofs.places.Slotted.{copied_few}
use Rattle.pass_rows.proofs.layouts.rows.copied_width.Goals as goal

pub returns-clause-room : goal.returns-clause-room
returns-clause-room c = λ small.
    omega (arith, copied_few (pass_setting c.args.setting.now) c.args.item small, ap length c.copied_passes.ensures)
