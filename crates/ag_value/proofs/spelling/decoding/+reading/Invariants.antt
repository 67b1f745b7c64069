use Rattle.std.proofs.Common.{◌≡◌, ◌+◌, ◌*◌, ◌-◌, []}
use Rattle.ag_value.specs.Reading.{all_at, item_at, pair_at}
use Rattle.ag_value.proofs.spelling.decoding.+reading.Given as goal

abbrev pub decreases-item_of : goal.decreases-item_of
decreases-item_of l = 3 * l.levels

abbrev pub decreases-pair_of : goal.decreases-pair_of
decreases-pair_of l = 3 * l.levels + 1

abbrev pub decreases-items_of : goal.decreases-items_of
decreases-items_of l = 3 * l.levels + 2

abbrev pub decreases-pairs_of : goal.decreases-pairs_of
decreases-pairs_of l = 3 * l.levels + 2

abbrev pub invariant-items_of-loop : goal.invariant-items_of-loop
invariant-items_of-loop l =
    all_at (item_at l.levels) (l.count - l.counter) l.items.items l.rest ≡ all_at (item_at l.levels) l.count [] l.bytes

abbrev pub invariant-pairs_of-loop : goal.invariant-pairs_of-loop
invariant-pairs_of-loop l =
    all_at (pair_at (item_at l.levels)) (l.count - l.counter) l.pairs.items l.rest ≡ all_at (pair_at (item_at l.levels)) l.count
    [] l.bytes
