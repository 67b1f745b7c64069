use Rattle.std.proofs.Common.{◌≡◌, drop, map}
use Rattle.ag_value.specs.Well.{all_true, is_item, is_item_pair}
use Rattle.ag_value.proofs.walks.wellness.+items.Given as goal

abbrev pub invariant-are_items-loop-item : goal.invariant-are_items-loop-item
invariant-are_items-loop-item l = all_true (map is_item (drop l.item-index l.items)) ≡ all_true (map is_item l.items)

abbrev pub invariant-are_item_pairs-loop-pair : goal.invariant-are_item_pairs-loop-pair
invariant-are_item_pairs-loop-pair l =
    all_true (map is_item_pair (drop l.pair-index l.pairs)) ≡ all_true (map is_item_pair l.pairs)
