use Rattle.std.proofs.Common.{◌≡◌, ◌-◌, ◌^◌, ◌<◌, max, min, drop, map}
use Rattle.ag_value.specs.Measure.{depth_of, greatest}
use Rattle.ag_value.proofs.walks.measuring.+measuring_depth.Given as goal

abbrev pub invariant-depth_of_items-loop-item : goal.invariant-depth_of_items-loop-item
invariant-depth_of_items-loop-item l =
    (min (max l.deepest (greatest (map depth_of (drop l.item-index l.items)))) (2 ^ 32 - 1) ≡ min
    (greatest (map depth_of l.items)) (2 ^ 32 - 1)) × (l.deepest < 2 ^ 32)

abbrev pub invariant-depth_of_pairs-loop-pair : goal.invariant-depth_of_pairs-loop-pair
invariant-depth_of_pairs-loop-pair l =
    (min (max l.deepest (greatest (map (λ p. depth_of p.1) (drop l.pair-index l.pairs)))) (2 ^ 32 - 1) ≡ min
    (greatest (map (λ p. depth_of p.1) l.pairs)) (2 ^ 32 - 1)) × (l.deepest < 2 ^ 32)
