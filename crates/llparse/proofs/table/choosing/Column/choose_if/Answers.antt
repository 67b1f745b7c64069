use Rattle.llparse.proofs.Common.{◌∙◌}
use Rattle.llparse.proofs.look_ahead.Choices.{skip_chosen, skip_pair}
use Rattle.llparse.proofs.table.choosing.Column.choose_if.Goals as goal

pub returns-then-wanted-clause-earliest : goal.returns-then-wanted-clause-earliest
returns-then-wanted-clause-earliest c =
    λ qs marks q is same marked old. c.put.ensures.earliest qs marks q is same (marked ∙ c.if-wanted.true) old

pub returns-else-wanted-clause-earliest : goal.returns-else-wanted-clause-earliest
returns-else-wanted-clause-earliest c =
    λ qs marks q is same marked old. skip_chosen qs marks c.args.production (marked ∙ c.if-wanted.false) _ old

pub returns-else-wanted-clause-least : goal.returns-else-wanted-clause-least
returns-else-wanted-clause-least c =
    λ qs marks q is same marked old least. skip_pair qs marks c.args.production (marked ∙ c.if-wanted.false) _ least
