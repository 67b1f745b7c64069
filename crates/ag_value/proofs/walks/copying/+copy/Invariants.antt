use Rattle.std.proofs.Common.{◌≡◌, take}
use Rattle.ag_value.proofs.walks.copying.+copy.Given as goal

abbrev pub invariant-copy_items-loop-item : goal.invariant-copy_items-loop-item
invariant-copy_items-loop-item l = l.copies.items ≡ take l.item-index l.items

abbrev pub invariant-copy_pairs-loop-pair : goal.invariant-copy_pairs-loop-pair
invariant-copy_pairs-loop-pair l = l.copies.items ≡ take l.pair-index l.pairs
