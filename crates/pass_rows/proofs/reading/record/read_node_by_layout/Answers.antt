use Rattle.pass_rows.proofs.Common.{◌∙◌, slice_get_within, err_from_is_err_and, setting}
use Rattle.pass_rows.proofs.Recorded.{no_node, no_node_read, node_read, same_err}
use Rattle.pass_rows.proofs.reading.record.read_node_by_layout.Goals as goal

pub returns-in_default-clause-none : goal.returns-in_default-clause-none
returns-in_default-clause-none c =
    λ damaged. no_node (setting c.args.context.now) c.args.symbol c.args.body.now c.node_in.ensures.few
    (c.node_in.ensures.none c.in_default.is)

pub row-layout-requires-clause-there : goal.row-layout-requires-clause-there
row-layout-requires-clause-there c = let b = c.in-Some.ensures.some in
    slice_get_within _ _ _ b.there

pub returns-in_err-take_row-clause-none : goal.returns-in_err-take_row-clause-none
returns-in_err-take_row-clause-none c =
    let p = err_from_is_err_and c.from_residual.result c.from_residual.ensures.1 in
    let b = c.in-Some.ensures.some in
    rw (p.1, p.2)
    (λ is. no_node_read (setting c.args.context.now) c.in-Some.ensures.few b
    (c.as_slice.ensures ∙ (c.row-layout.ensures b.production b.there).passes)
    (c.in_err-take_row.ensures.none (same_err _ _ is)))

pub returns-clause-read : goal.returns-clause-read
returns-clause-read c =
    let b = c.in-Some.ensures.some in
    node_read b (c.as_slice.ensures ∙ (c.row-layout.ensures b.production b.there).passes) c.in_ok-take_row.ensures.taken
