-- The remaining goals of `add_first_edges`.
use Rattle.llparse.proofs.Common.{take_all, Item, IsEdge, node_of}
use Rattle.llparse.proofs.look_ahead.Edges.{adds_more}
use Rattle.llparse.proofs.table.first.add_first_edges.Goals as goal

pub loop-item-preserved : goal.loop-item-preserved
loop-item-preserved c =
    adds_more (λ (x : Item) e. IsEdge (node_of c.args.sizes.symbols c.args.sizes.literals x) c.args.left e) _ _ _ _ _ _
    c.loop-item-test.true c.loop-item.invariant (rw c.node.ensures at c.in_ok-add_edge.ensures)

pub returns : goal.returns
returns c =
    rw (take_all c.loop-item.item-index c.args.items.now c.loop-item-test.false) at c.loop-item.invariant
