use Rattle.llparse.proofs.look_ahead.Columns.{column_is, least_is}
use Rattle.llparse.proofs.table.filling.column_of.Goals as goal

pub returns-clause-column : goal.returns-clause-column
returns-clause-column c =
    column_is c.args.grammar.now c.args.ahead _ c.in_ok-marks.ensures.marks _
    (rw (c.productions.ensures.lent, c.as_slice.ensures.value) at c.in_ok-column.ensures.earliest)

pub returns-clause-least : goal.returns-clause-least
returns-clause-least c =
    least_is c.args.grammar.now c.args.ahead _ c.in_ok-marks.ensures.marks _
    (rw (c.productions.ensures.lent, c.as_slice.ensures.value) at c.in_ok-column.ensures.least)
