use Rattle.std.proofs.Common.{sym, subst}
use Rattle.std.proofs.lemmas.Result.{IfOk-weaker}
use Rattle.passassign.specs.Certificate.{Members}
use Rattle.passassign.specs.Chains.{IsChainOf}
use Rattle.plan_reasons.proofs.Linked.{chain_links}
use Rattle.plan_reasons.proofs.chains.stuck_links.Goals as goal

pub returns : goal.returns
returns c =
    let g = c.args.grammar.now in
    let d = c.args.direction in
    let set = c.args.stuck.now.set in
    let s = c.args.attribute.0 in
    let a = c.args.attribute.1 in
    let xs = c.as_slice.result.now in
    IfOk-weaker c.links_of.result _ _
    (λ links related is member. chain_links g d (Members set) s a xs links.items
    (subst (IsChainOf g d (Members set) s a) (sym c.as_slice.ensures.value) (c.in_ok-chain.ensures.chain is member)) related)
    c.links_of.ensures
