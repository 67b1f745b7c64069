-- The totals of the pairs of a table. All of this is this project's.
use Rattle.std.specs.Prelude.{◌≡◌, ◌+◌, ◌<◌, ◌≤◌, ℕ, List, length, map, max, slice_index, sum}
use Rattle.ag_value.specs.Measure.{depth_of, greatest, max_value_depth, max_weight, weight_of_pair}
use Rattle.ag_value.specs.declared.value.Value.{Value}
use Rattle.table_tree.specs.declared.totals.Totals.{Totals}

-- the number of pairs, the number of bytes of their encodings, and the greatest depth of their values
pub record AreTotals (pairs : List (List ℕ × Value)) (totals : Totals) : Type 0 where
  pub pairs_are : totals.pairs ≡ length pairs
  pub bytes_are : totals.bytes ≡ sum (map weight_of_pair pairs)
  pub depth_is : totals.depth ≡ greatest (map (λ p. depth_of p.1) pairs)

-- each number of a list is a byte
abbrev pub AreBytes : List ℕ → Type 0
AreBytes bytes = (i : ℕ) → slice_index bytes i < 256

-- `whole` are the totals of the three parts together
pub record AreJoined (before pair after whole : Totals) : Type 0 where
  pub pairs_are : whole.pairs ≡ before.pairs + pair.pairs + after.pairs
  pub bytes_are : whole.bytes ≡ before.bytes + pair.bytes + after.bytes
  pub depth_is : whole.depth ≡ max (max before.depth pair.depth) after.depth

-- A table with these totals is within the limits of well values: its weight is five bytes more than that of its pairs, and its
-- depth one more than that of its deepest value. The number of pairs is at most the number of bytes of their encodings.
pub record AreSmall (totals : Totals) : Type 0 where
  pub few : totals.pairs ≤ totals.bytes
  pub light : 5 + totals.bytes ≤ max_weight
  pub shallow : 1 + totals.depth ≤ max_value_depth
