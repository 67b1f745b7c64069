use Rattle.std.proofs.Common.{◌≡◌, Some, slice_get, refl, sym, ap, ◌∙◌}
use Rattle.std.proofs.lemmas.Option.{slice_get_read}
use Rattle.plan_reasons.proofs.Linked.{link_of_named}
use Rattle.plan_reasons.proofs.links.link_of.Goals as goal

pub returns : goal.returns
returns c =
    let q = c.in-Some.production.now in
    let u = c.in-Some-get.rule.now in
    let o = c.in-Some-get-2.argument.now in
    let production : slice_get c.args.grammar.now.productions c.args.strike.production ≡ Some q =
    ap (λ xs. slice_get xs c.args.strike.production) (sym c.productions.ensures.lent)
    ∙ slice_get_read c.productions.result.now _ c.args.strike.production q refl c.in-Some.ensures.lookup.3.0
    c.in-Some.ensures.lookup.1 in
    let rule : slice_get q.rules c.args.strike.rule ≡ Some u =
    ap (λ xs. slice_get xs c.args.strike.rule) (sym c.as_slice.ensures)
    ∙ slice_get_read c.as_slice.result.now _ c.args.strike.rule u refl c.in-Some-get.ensures.lookup.3.0
    c.in-Some-get.ensures.lookup.1 in
    let argument : slice_get u.args c.args.strike.arg ≡ Some o =
    ap (λ xs. slice_get xs c.args.strike.arg) (sym c.as_slice-2.ensures)
    ∙ slice_get_read c.as_slice-2.result.now _ c.args.strike.arg o refl c.in-Some-get-2.ensures.lookup.3.0
    c.in-Some-get-2.ensures.lookup.1 in
    link_of_named c.args.grammar.now c.args.strike q u o c.link_at.result
    (record { is_production = production; is_rule = rule; is_argument = argument }) c.link_at.ensures
