use Rattle.passrun.proofs.Common.{arith}
use Rattle.passrun.proofs.steps.MachineSteps.{left_leads, row_within}
use Rattle.passrun.proofs.course.Working.{put_less}
use Rattle.passrun.proofs.passing.machine.Machine.skip_put.Goals as goal

pub place-row-requires-clause-there : goal.place-row-requires-clause-there
place-row-requires-clause-there c =
    row_within c.row-layout.result.now c.requires.runs.1 c.in-Put.ensures.there c.row-layout.ensures

pub returns-clause-runs : goal.returns-clause-runs
returns-clause-runs c = λ _ r.
    left_leads c.requires.context.sound c.in-Symbol.field-0 c.in-Put.ensures.there c.place-row.ensures c.in-Symbol.is
    c.after_step.ensures r

pub returns-clause-most : goal.returns-clause-most
returns-clause-most c =
    omega (
      arith,
      put_less c.requires.context.sound c.args.self.now.writer c.requires.runs.1 c.in-Put.ensures.there c.after_step.ensures,
    )
