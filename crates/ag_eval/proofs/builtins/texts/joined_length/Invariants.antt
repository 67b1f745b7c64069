use Rattle.ag_eval.proofs.Common.{◌≡◌, ◌+◌, ◌-◌, ◌++◌, ◌^◌, ◌<◌, drop, length, min, flat_map, join_by, bytes_of}
use Rattle.ag_eval.proofs.builtins.texts.joined_length.Given as goal

abbrev pub invariant-loop-item : goal.invariant-loop-item
invariant-loop-item l =
    (min (l.total + length (flat_map (λ y. l.separator ++ bytes_of y) (drop l.item-index l.rest))) (2 ^ 64 - 1) ≡ min
    (length (join_by bytes_of l.separator l.items)) (2 ^ 64 - 1)) × (l.total < 2 ^ 64)
