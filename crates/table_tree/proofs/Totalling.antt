-- The totals of the parts of a table.
use Rattle.std.proofs.Common.{◌≡◌, ℕ, ◌+◌, ◌≤◌, List, [], ◌∷◌, ◌++◌, arith, length-append, Option, Some, None, Err}
use Rattle.std.proofs.lemmas.Bool.{le-ltb, lt-ltb}
use Rattle.ag_value.specs.operations.Fitting.{fit}
use Rattle.ag_value.specs.operations.Tables.{with_pair}
use Rattle.ag_value.specs.declared.value.Value.{Value}
use Rattle.ag_value.specs.declared.value.Value.TheVariants as v
use Rattle.ag_value.specs.Measure.{depth_of, weight_of, weight_of_pair, max_value_depth, max_weight}
use Rattle.ag_value.specs.Well.{IsWell}
use Rattle.ag_value.proofs.Layers.{depth-Table, weight-Table}
use Rattle.ag_value.proofs.Weights.{few_pairs}
use Rattle.table_tree.specs.Entries.{IsEntry}
use Rattle.table_tree.specs.Putting.{IsFaultOf, IsLimitFault, IsPut}
use Rattle.table_tree.specs.declared.putting.PutFault.{PutFault}
use Rattle.table_tree.specs.declared.putting.PutFault.TheVariants as fault
use Rattle.table_tree.specs.Totals.{AreJoined, AreSmall, AreTotals}
use Rattle.table_tree.specs.declared.totals.Totals.{Totals}
use Rattle.table_tree.proofs.Keys.{Pair}
use Rattle.table_tree.proofs.Tables.{depth_of_pair, greatest_append, sum_append, sum_cons}
use Rattle.table_tree.proofs.With.{with_lighter, with_shallower}

-- the totals of the pairs before a pair, of the pair, and of those after it
pub joined_totals : {before : List Pair} {p : Pair} {after : List Pair} {x y z t : Totals} → AreTotals before x
    → AreTotals (p ∷ []) y → AreTotals after z → AreJoined x y z t → AreTotals (before ++ p ∷ after) t
joined_totals {before} {p} {after} b m a j = record {
  pairs_are = omega (arith, length-append before (p ∷ after));
  bytes_are =
      omega (arith, sum_append weight_of_pair before (p ∷ after), sum_cons weight_of_pair p after, sum_cons weight_of_pair p []);
  depth_is = omega (arith, greatest_append depth_of_pair before (p ∷ after));
}

-- the totals of a well table are within its limits
pub small : {pairs : List Pair} {t : Totals} → AreTotals pairs t → IsWell (v.Table pairs) → AreSmall t
small {pairs} are well = record {
  few = omega (arith, few_pairs pairs);
  light = omega (arith, weight-Table pairs);
  shallow = omega (arith, depth-Table pairs);
}

-- the totals of one pair
pub totals_alone : (p : Pair) (t : Totals) → t.pairs ≡ 1 → t.bytes ≡ weight_of_pair p → t.depth ≡ depth_of p.1
    → AreTotals (p ∷ []) t
totals_alone p t n b d =
    record { pairs_are = n; bytes_are = omega (arith, sum_cons weight_of_pair p []); depth_is = omega arith }

-- Bounds of the totals of a well table after one pair was put into it, before the check of the limits. There are at most
-- 3,145,732 bytes: the old table has at most 1,048,576, and the new pair at most 2,097,156 (`entry_light`).
pub record AreBounded (totals : Totals) : Type 0 where
  pub few : totals.pairs ≤ totals.bytes
  pub light : totals.bytes ≤ 3145732

pub with_bounded : {p : Pair} (ps : List Pair) {t a : Totals} → AreTotals (with_pair p.0 p.1 ps) t → AreTotals (p ∷ []) a
    → a.bytes ≤ 2097156 → IsWell (v.Table ps) → AreBounded t
with_bounded {p} ps are one light well = record {
  few = omega (arith, few_pairs (with_pair p.0 p.1 ps));
  light = omega (arith, sum_cons weight_of_pair p [], with_lighter p weight_of_pair ps, weight-Table ps);
}

-- the encoding of an entry has at most 2,097,156 bytes: 4 for the key's length, and 1,048,576 each for the key and the value
pub entry_light : {key : List ℕ} {value : Value} {bytes : List ℕ} {depth : ℕ} → IsEntry key value bytes depth
    → weight_of_pair (key, value) ≤ 2097156
entry_light is = let light = is.well.light in omega arith

-- the limit that a table exceeds, by its totals
pub fault_of : {ps : List Pair} {t : Totals} (f : Option PutFault) → AreTotals ps t → IsLimitFault t f → IsFaultOf ps f
fault_of {ps} None are is = (omega (arith, depth-Table ps), omega (arith, weight-Table ps))
fault_of {ps} (Some fault.TooDeep) are is = omega (arith, depth-Table ps)
fault_of {ps} (Some fault.TooHeavy) are is = (omega (arith, depth-Table ps), omega (arith, weight-Table ps))
fault_of (Some fault.NoMemory) are is = is

-- a table in which a key has a value exceeds no limit if the pairs of the old table and this one together exceed none
pub room : {p : Pair} {ps : List Pair} {none added own most : Totals} → AreTotals [] none → AreTotals (p ∷ []) added
    → AreTotals ps own → AreJoined none added own most → IsLimitFault most None → IsFaultOf (with_pair p.0 p.1 ps) None
room {p} {ps} n a o j is =
    let all : List Pair = with_pair p.0 p.1 ps in (
      omega (arith, depth-Table all, with_shallower p depth_of_pair ps),
      omega (arith, weight-Table all, with_lighter p weight_of_pair ps, sum_cons weight_of_pair p []),
    )

-- `fit` returns a table that is within the limits, and the error for a table that is beyond one
pub fit_within : (ps : List Pair) → IsFaultOf ps None → fit (v.Table ps) ≡ v.Table ps
fit_within ps is =
    rw (le-ltb max_value_depth (depth_of (v.Table ps)) is.0, le-ltb max_weight (weight_of (v.Table ps)) is.1)

pub put_fault : (ps : List Pair) (f : PutFault) → IsFaultOf ps (Some f) → IsPut (fit (v.Table ps)) (Err f)
put_fault ps fault.TooDeep is = rw (lt-ltb max_value_depth (depth_of (v.Table ps)) is)
put_fault ps fault.TooHeavy is =
    rw (le-ltb max_value_depth (depth_of (v.Table ps)) is.0, lt-ltb max_weight (weight_of (v.Table ps)) is.1)
put_fault ps fault.NoMemory is = tt
