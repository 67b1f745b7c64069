use Rattle.passassign.proofs.Common.{refl, slice_get_read}
use Rattle.passassign.proofs.strikes.Chained.{wait_of}
use Rattle.passassign.proofs.chain.waits_for.Goals as goal

pub returns : goal.returns
returns c =
    let q = c.in-Some.production.now in
    let u = c.in-Some-get.rule.now in
    let o = c.in-Some-get-2.argument.now in
    let production =
    rw c.productions.ensures.lent at
    (slice_get_read c.productions.result.now _ c.args.strike.production q refl c.in-Some.ensures.lookup.3.0
    c.in-Some.ensures.lookup.1) in
    let rule =
    rw c.as_slice.ensures at
    (slice_get_read c.as_slice.result.now _ c.args.strike.rule u refl c.in-Some-get.ensures.lookup.3.0
    c.in-Some-get.ensures.lookup.1) in
    let argument =
    rw c.as_slice-2.ensures at
    (slice_get_read c.as_slice-2.result.now _ c.args.strike.arg o refl c.in-Some-get-2.ensures.lookup.3.0
    c.in-Some-get-2.ensures.lookup.1) in
    wait_of c.args.grammar.now c.args.direction c.args.strike q u o c.awaited_attribute.result
    (record { is_production = production; is_rule = rule; is_argument = argument }) c.awaited_attribute.ensures
