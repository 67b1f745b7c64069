use Rattle.std.proofs.Common.{◌≡◌, ◌-◌, ◌^◌, take, min, sum, map}
use Rattle.ag_value.specs.Measure.{weight_of, weight_of_pair}
use Rattle.ag_value.proofs.walks.measuring.+weighing.Given as goal

abbrev pub invariant-weight_of_items-loop-item : goal.invariant-weight_of_items-loop-item
invariant-weight_of_items-loop-item l = l.total ≡ min (sum (map weight_of (take l.item-index l.items))) (2 ^ 64 - 1)

abbrev pub invariant-weight_of_pairs-loop-pair : goal.invariant-weight_of_pairs-loop-pair
invariant-weight_of_pairs-loop-pair l = l.total ≡ min (sum (map weight_of_pair (take l.pair-index l.pairs))) (2 ^ 64 - 1)
