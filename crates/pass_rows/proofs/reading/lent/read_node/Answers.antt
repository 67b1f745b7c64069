use Rattle.pass_rows.proofs.Common.{◌∙◌}
use Rattle.pass_rows.proofs.Recorded.{row_read}
use Rattle.pass_rows.proofs.reading.lent.read_node.Goals as goal

pub returns-then-branch-clause-read : goal.returns-then-branch-clause-read
returns-then-branch-clause-read c =
    let b = c.in-Some.ensures in
    row_read b (c.as_slice.ensures ∙ (c.row-row.ensures b.production b.there).passes)
    (c.in_ok-take_row.ensures.taken c.if-branch.true)
