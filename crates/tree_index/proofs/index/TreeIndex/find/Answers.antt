use Rattle.std.proofs.Common.{get_or, take, arith}
use Rattle.std.proofs.lemmas.List.{take_more, take_all}
use Rattle.tree_index.proofs.Paths.{child_at_end, no_node_at, root_at}
use Rattle.tree_index.proofs.NoChild.{if_none}
use Rattle.tree_index.proofs.index.TreeIndex.find.Goals as goal

pub loop-place-init : goal.loop-place-init
loop-place-init c = root_at c.args.grammar.now c.args.self.now

pub loop-place-preserved : goal.loop-place-preserved
loop-place-preserved c =
    let places = c.args.places.now in
    let i = c.loop-place.place-index in
    rw (take_more places i 0 (omega arith))
    (child_at_end c.args.grammar.now c.args.self.now (take i places) c.loop-place.node (get_or places i 0) c.in_ok-node.node
    c.loop-place.invariant c.in_ok-node.ensures.child)

pub returns-clause-node : goal.returns-clause-node
returns-clause-node c =
    rw (take_all c.loop-place.place-index c.args.places.now (omega arith)) at c.loop-place.invariant

pub returns-in_err-node-clause-complete : goal.returns-in_err-node-clause-complete
returns-in_err-node-clause-complete c =
    if_none c.from_residual.result
    (no_node_at c.args.grammar.now c.args.self.now c.args.places.now c.loop-place.place-index c.loop-place.node (omega arith)
    c.loop-place.invariant c.in_err-node.ensures.complete)
