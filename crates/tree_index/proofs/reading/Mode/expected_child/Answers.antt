use Rattle.std.proofs.Common.{◌≡◌, ◌∙◌, suc, ap, sym, arith}
use Rattle.ag_grammar.specs.grammars.Passes.{nth, other}
use Rattle.tree_index.specs.Nodes.{back_from}
use Rattle.tree_index.proofs.Steps.{next_item}
use Rattle.tree_index.proofs.reading.Mode.expected_child.Goals as goal

pub returns : goal.returns
returns c = λ q is.
    let g = c.args.self.now.format.grammar.now in
    let node = c.args.node in
    let pass = c.args.self.now.format.pass in
    let direction : c.turned-direction.result ≡ back_from pass = c.turned-direction.ensures ∙ ap other c.of_pass.ensures in
    let turn : nth (back_from pass) node.children node.visited ≡ c.nth-index.result = ap (λ d. nth d node.children node.visited)
    (sym direction) ∙ sym c.nth-index.ensures.nth in
    let place : c.saturating_add-place.result ≡ suc c.nth-index.result = let within = c.nth-index.ensures.within in omega
    (arith, c.saturating_add-place.ensures) in
    next_item g node.production q c.in_ok-production.production.now (back_from pass) node.children node.visited
    c.saturating_add-place.result c.nth-index.result c.in_ok-item_at.field-0 is c.in_ok-production.ensures turn place
    (sym c.item_at.ensures ∙ c.in_ok-item_at.was)
