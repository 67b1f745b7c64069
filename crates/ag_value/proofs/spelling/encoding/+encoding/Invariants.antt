use Rattle.std.proofs.Common.{◌≡◌, ◌++◌, ◌<◌, ◌^◌, drop, map, sum}
use Rattle.ag_value.specs.Measure.{weight_of, weight_of_pair}
use Rattle.ag_value.specs.Spelling.{Extends, joined, spelling_of, spelling_of_pair}
use Rattle.ag_value.proofs.spelling.encoding.+encoding.Given as goal

abbrev pub invariant-append_list-loop-item : goal.invariant-append_list-loop-item
invariant-append_list-loop-item l =
    (l.out.items ++ joined (map spelling_of (drop l.item-index l.items)) ≡ l.initial.out.items ++ joined
    (map spelling_of l.items))
    × (sum (map weight_of (drop l.item-index l.items)) < 2 ^ 32)
    × Extends l.fn.out.items l.out.items

abbrev pub invariant-append_table-loop-pair : goal.invariant-append_table-loop-pair
invariant-append_table-loop-pair l =
    (l.out.items ++ joined (map spelling_of_pair (drop l.pair-index l.pairs)) ≡ l.initial.out.items ++ joined
    (map spelling_of_pair l.pairs))
    × (sum (map weight_of_pair (drop l.pair-index l.pairs)) < 2 ^ 32)
    × Extends l.fn.out.items l.out.items
