use Rattle.llparse.proofs.Common
use Common.{ℕ, ◌≡◌, ◌+◌, ◌-◌, ◌<◌, arith, false, length, Item, can_start_in, node_of, is_nullable_item, is_marked}
use Rattle.llparse.proofs.look_ahead.CanStart.{adds_rest, next_more}
use Rattle.llparse.proofs.table.follow.add_seeds.Goals as goal

pub loop-at-preserved : goal.loop-at-preserved
loop-at-preserved c =
    let n = is_marked c.args.nullable.now in
    let b = λ (x : Item). is_marked c.args.in_first.now (node_of c.args.sizes.symbols c.args.sizes.literals x) in
    let inside : c.loop-at.at - 1 < length c.args.items.now = omega (arith, c.loop-at-test.true, c.loop-at.auto.at) in
    let step : c.loop-at.at ≡ (c.loop-at.at - 1) + 1 = omega (arith, c.loop-at-test.true) in
    record {
      next =
          rw (c.can_start-next.ensures, c.is_marked.ensures, c.node-node.ensures, c.is_nullable_item.ensures)
          (next_more b (is_nullable_item n) false c.args.items.now
          (c.loop-at.at - 1) c.loop-at.at _ c.loop-at.next inside step c.loop-at.invariant.next);
      seeds =
          adds_rest (can_start_in b (is_nullable_item n) false)
          (λ (x : Item) (t : ℕ). t ≡ node_of c.args.sizes.symbols c.args.sizes.literals x) c.args.items.now
          (c.loop-at.at - 1) c.loop-at.at _ c.loop-at.next _ _ _ inside step c.loop-at.invariant.next
          c.loop-at.invariant.seeds (rw c.node-node.ensures at c.in_ok-add_seed_if.ensures);
    }

pub returns : goal.returns
returns c =
    let none : c.loop-at.at ≡ 0 = omega (arith, c.loop-at-test.false) in
    rw none at c.loop-at.invariant.seeds
