use Rattle.passassign.proofs.Common.{◌≡◌, slice_get, IfOk-weaker, IsStruckBy, StartsWith}
use Rattle.passassign.proofs.strikes.Walked.{starts}
use Rattle.passassign.proofs.chain.chain_in.Goals as goal

pub returns-in-Some-clause-first : goal.returns-in-Some-clause-first
returns-in-Some-clause-first c =
    let xs = c.args.strikes.now in
    let (lt, symbol, attr) = c.in-Some.ensures.found in
    IfOk-weaker c.chain_from.result (λ links. slice_get links.items 0 ≡ slice_get xs c.in-Some.at)
    (λ links. IsStruckBy xs c.args.attribute.0 c.args.attribute.1
    → StartsWith c.args.attribute.0 c.args.attribute.1 links.items)
    (λ links e hit. starts xs links.items c.in-Some.at c.args.attribute.0 c.args.attribute.1 lt symbol attr e)
    c.chain_from.ensures.first
