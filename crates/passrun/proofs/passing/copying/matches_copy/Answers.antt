use Rattle.passrun.proofs.Common.{drop, setting}
use Rattle.passrun.proofs.steps.MachineSteps.{nothing_read}
use Rattle.passrun.proofs.passing.copying.matches_copy.Goals as goal

pub returns-then-row-eq0 : goal.returns-then-row-eq0
returns-then-row-eq0 c =
    nothing_read (setting c.args.context.now) c.args.row.item (drop c.args.copied c.args.values.now)
    (drop c.args.start c.args.values.now) (cc)
