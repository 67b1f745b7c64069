use Rattle.pass_rows.proofs.Common.{◌∙◌, ap, length, arith, slice_get_within, err_from_is_err_and, pass_setting, row_passes}
use Rattle.pass_rows.proofs.Recorded.{no_node, no_node_read, node_read, production_is, same_err}
use Rattle.pass_rows.proofs.reading.record.read_node.Goals as goal

pub returns-in_default-clause-none : goal.returns-in_default-clause-none
returns-in_default-clause-none c =
    λ damaged. no_node (pass_setting c.args.setting.now) c.args.symbol c.args.body.now
    c.node_in.ensures.few (c.node_in.ensures.none c.in_default.is)

pub bounds-productions-number : goal.bounds-productions-number
bounds-productions-number c =
    let b = c.in-Some.ensures.some in
    omega (
      arith,
      ap length c.productions.ensures.lent,
      slice_get_within c.args.setting.now.grammar.now.productions c.in-Some.number b.production b.there,
    )

pub returns-in_err-take_row-clause-none : goal.returns-in_err-take_row-clause-none
returns-in_err-take_row-clause-none c =
    let p = err_from_is_err_and c.from_residual.result c.from_residual.ensures.1 in
    let b = c.in-Some.ensures.some in
    let context = pass_setting c.args.setting.now in
    let one =
    production_is c.args.setting.now.grammar.now.productions c.productions.result.now c.in-Some.number b.production
    c.index-productions-number.result _ c.productions.ensures.lent c.index-productions-number.is b.there in
    rw (p.1, p.2)
    (λ is. no_node_read context c.in-Some.ensures.few b
    (c.as_slice.ensures ∙ c.in-Ok.ensures ∙ ap (row_passes context) one)
    (c.in_err-take_row.ensures.none (same_err _ _ is)))

pub returns-clause-read : goal.returns-clause-read
returns-clause-read c =
    let b = c.in-Some.ensures.some in
    let one =
    production_is c.args.setting.now.grammar.now.productions c.productions.result.now c.in-Some.number b.production
    c.index-productions-number.result _ c.productions.ensures.lent c.index-productions-number.is b.there in
    node_read b (c.as_slice.ensures ∙ c.in-Ok.ensures ∙ ap (row_passes (pass_setting c.args.setting.now)) one)
    c.in_ok-take_row.ensures.taken
