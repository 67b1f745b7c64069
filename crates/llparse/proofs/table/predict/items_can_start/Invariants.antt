use Rattle.llparse.proofs.Common.{◌≡◌, drop, Item, can_start_in, node_of, is_nullable_item, is_marked}
use Rattle.llparse.proofs.table.predict.items_can_start.Given as goal

abbrev pub invariant-loop-item : goal.invariant-loop-item
invariant-loop-item l =
    can_start_in (λ (x : Item). is_marked l.in_first (node_of l.sizes.symbols l.sizes.literals x))
    (is_nullable_item (is_marked l.nullable)) l.following (drop l.item-index l.items)
    ≡ can_start_in (λ (x : Item). is_marked l.in_first (node_of l.sizes.symbols l.sizes.literals x))
    (is_nullable_item (is_marked l.nullable)) l.following l.items
