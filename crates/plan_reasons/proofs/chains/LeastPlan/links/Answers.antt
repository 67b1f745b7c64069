use Rattle.std.proofs.Common.{sym, subst}
use Rattle.std.proofs.lemmas.Result.{IfOk-weaker}
use Rattle.ag_grammar.specs.grammars.Passes.{direction_of}
use Rattle.passassign.specs.Chains.{IsChainOf}
use Rattle.passassign.specs.PassStrikes.{HasPassFrom}
use Rattle.passassign.specs.Rows.{passes_of}
use Rattle.plan_reasons.proofs.Linked.{chain_links}
use Rattle.plan_reasons.proofs.chains.LeastPlan.links.Goals as goal

pub returns : goal.returns
returns c =
    let g = c.args.grammar.now in
    let k = c.args.pass in
    let rows = c.args.self.now.assignment.now in
    let s = c.args.attribute.0 in
    let a = c.args.attribute.1 in
    let xs = c.as_slice.result.now in
    IfOk-weaker c.links_of.result _ _
    (λ links related are from later. chain_links g (direction_of k) (HasPassFrom (passes_of rows) k) s a xs links.items
    (subst (IsChainOf g (direction_of k) (HasPassFrom (passes_of rows) k) s a) (sym c.as_slice.ensures.value)
    (c.in_ok-chain.ensures.chain rows are from later)) related) c.links_of.ensures
