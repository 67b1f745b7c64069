use Rattle.std.proofs.Common.{◌≡◌, ◌∙◌, List, Some, ap, length, refl, slice_get, sym}
use Rattle.std.proofs.lemmas.Option.{slice_get_read}
use Rattle.ag_grammar.specs.declared.grammar.Production.{Production}
use Rattle.tree_index.proofs.Kids.{has_node_item, has_token_item}
use Rattle.tree_index.proofs.index.TreeIndex.item.Goals as goal

pub returns-in_ok-production-in-Node : goal.returns-in_ok-production-in-Node
returns-in_ok-production-in-Node c =
    let lent = c.productions.result.now in
    let production = c.in_ok-production-in-Node.production.now in
    let lookup = c.in_ok-production-in-Node.ensures.lookup in
    let there : slice_get lent c.from.result ≡ Some production =
    slice_get_read lent (length lent) c.from.result production refl lookup.3.0 lookup.1 in
    has_node_item c.args.grammar.now c.args.self.now c.args.node c.in-Node.number production
    (sym c.kind.ensures ∙ c.in_ok-number.was ∙ ap Some c.in-Node.is)
    (ap (slice_get c.args.grammar.now.productions) (sym c.from.ensures)
    ∙ ap (λ (qs : List Production). slice_get qs c.from.result) (sym c.productions.ensures.lent) ∙ there)

pub returns-in-Token : goal.returns-in-Token
returns-in-Token c = has_token_item c.args.grammar.now c.args.self.now c.args.node c.in-Token.class
    (sym c.kind.ensures ∙ c.in_ok-number.was ∙ ap Some c.in-Token.is)
