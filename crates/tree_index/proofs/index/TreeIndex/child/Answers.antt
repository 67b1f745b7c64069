use Rattle.std.proofs.Common.{◌≡◌, ◌-◌, arith}
use Rattle.std.proofs.lemmas.Option.{IfSome_then}
use Rattle.ag_grammar.specs.grammars.Passes.{nth}
use Rattle.tree_index.specs.Nodes.{back_from}
use Rattle.tree_index.proofs.Kids.{child_is}
use Rattle.tree_index.proofs.NoChild.{few_children, if_none_then, no_child, no_place}
use Rattle.tree_index.proofs.index.TreeIndex.child.Goals.{then-place-eq0-via-then-place-eq0}
use Rattle.tree_index.proofs.index.TreeIndex.child.Goals.{then-place-eq0-via-else-place-eq0+then-count-place}
use Rattle.tree_index.proofs.index.TreeIndex.child.Goals as goal

pub returns-clause-child : goal.returns-clause-child
returns-clause-child c =
    let index = c.args.self.now in
    let count = c.child_count-count.result in
    let before = c.others_before.result in
    let place = c.args.place in
    let turn : nth (back_from index.pass) count before ≡ place - 1 = cc (
      c.turned-direction.ensures,
      c.of_pass.ensures,
      c.others_before.ensures.nth,
    ) in
    IfSome_then c.child_after.result c.child_after.ensures.later (λ child later.
    child_is c.args.grammar.now index c.args.node count
    place before child c.child_count-count.ensures c.others_before.ensures.less turn (omega arith) later)

pub returns-then-place-eq0-clause-complete : goal.returns-then-place-eq0-clause-complete
returns-then-place-eq0-clause-complete c =
    let g = c.args.grammar.now in
    let index = c.args.self.now in
    elim c.then-place-eq0.branch [
      | then-place-eq0-via-then-place-eq0 w ↦
          no_place g index c.args.node c.args.place w.if-place-eq0.true
      | then-place-eq0-via-else-place-eq0+then-count-place w ↦
          few_children g index c.args.node c.args.place c.child_count-count.result
          c.child_count-count.ensures w.if-count-place.true
    ]

pub returns-clause-complete : goal.returns-clause-complete
returns-clause-complete c =
    if_none_then c.child_after.result c.child_after.ensures.complete
    (no_child c.args.grammar.now c.args.self.now c.args.node c.others_before.result c.child_count-count.result c.args.place
    c.child_count-count.ensures c.others_before.ensures.less)
