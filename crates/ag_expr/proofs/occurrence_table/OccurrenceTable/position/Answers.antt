use Rattle.ag_expr.proofs.Common.{◌∙◌}
use Rattle.ag_expr.proofs.occurrence_table.OccurrenceTable.position.Goals as goal

pub returns : goal.returns
returns c = rw (← c.self.view_is) (c.copied.ensures ∙ c.get.ensures.value ∙ c.self.invariant.0 (c.args.place, c.args.attr))
