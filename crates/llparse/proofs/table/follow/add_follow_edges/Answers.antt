use Rattle.llparse.proofs.Common
use Common.{◌≡◌, ◌+◌, ◌-◌, ◌<◌, arith, false, true, length, Item, all_nullable, IsEdge, node_of, is_nullable_item, is_marked}
use Rattle.llparse.proofs.look_ahead.CanStart.{adds_rest, next_more}
use Rattle.llparse.proofs.table.follow.add_follow_edges.Goals as goal

pub loop-at-preserved : goal.loop-at-preserved
loop-at-preserved c =
    let n = is_marked c.args.nullable.now in
    let inside : c.loop-at.at - 1 < length c.args.items.now = omega (arith, c.loop-at-test.true, c.loop-at.auto.at) in
    let step : c.loop-at.at ≡ (c.loop-at.at - 1) + 1 = omega (arith, c.loop-at-test.true) in
    record {
      rest_nullable =
          rw (c.can_start-rest_nullable.ensures, c.is_nullable_item.ensures)
          (next_more (λ x. false) (is_nullable_item n) true c.args.items.now
          (c.loop-at.at - 1) c.loop-at.at _ c.loop-at.rest_nullable inside step c.loop-at.invariant.rest_nullable);
      edges =
          adds_rest (all_nullable (is_nullable_item n))
          (λ (x : Item) e. IsEdge c.args.left (node_of c.args.sizes.symbols c.args.sizes.literals x) e) c.args.items.now
          (c.loop-at.at - 1) c.loop-at.at _ c.loop-at.rest_nullable _ _ _ inside step c.loop-at.invariant.rest_nullable
          c.loop-at.invariant.edges (rw c.node.ensures at c.in_ok-add_edge_if.ensures);
    }
