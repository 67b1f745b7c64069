use Rattle.std.proofs.Common.{rules, ◌≡◌, Some, length, refl, slice_get}
use Rattle.std.proofs.lemmas.Option.{slice_get_read}
use Rattle.origins.specs.Records.{IsNode}
use Rattle.origins.proofs.record.record_of.Goals as goal

pub returns-in_ok-values-in-Symbol-clause-found : goal.returns-in_ok-values-in-Symbol-clause-found
returns-in_ok-values-in-Symbol-clause-found c =
    let lent = c.productions.result.now in
    let production = c.in-Some-get.production.now in
    let lookup = c.in-Some-get.ensures.lookup in
    let there : slice_get lent c.in-Some.number ≡ Some production =
    slice_get_read lent (length lent) c.in-Some.number production refl lookup.3.0 lookup.1 in
    let node : IsNode c.args.grammar.now c.args.body.now c.in-Some.number c.in_ok-values-in-Symbol.values = search rules in
    let same : node.production ≡ production = cc (c.productions.ensures.lent, there, node.there) in
    (node, cc (c.in-Symbol.is, c.if-production-symbol.false, same))
