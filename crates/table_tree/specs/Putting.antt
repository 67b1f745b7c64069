-- The result of putting a pair into a table. All of this is this project's.
use Rattle.std.specs.Prelude.{◌≡◌, ◌+◌, ◌<◌, ◌≤◌, ℕ, List, Option, Some, None, Result, Ok, Err}
use Rattle.ag_value.specs.Measure.{depth_of, max_value_depth, max_weight, weight_of}
use Rattle.ag_value.specs.declared.value.ErrorCode.TheVariants.{Big, Deep}
use Rattle.ag_value.specs.declared.value.Value.{Value}
use Rattle.ag_value.specs.declared.value.Value.TheVariants as value
use Rattle.table_tree.specs.declared.putting.PutFault.{PutFault}
use Rattle.table_tree.specs.declared.putting.PutFault.TheVariants as fault
use Rattle.table_tree.specs.declared.totals.Totals.{Totals}

-- The result of `put` is right for the expected value. A resulting table is the expected value itself. TooDeep means that the
-- expected value is the error `deep`, and TooHeavy that it is the error `big`. NoMemory may come in any case.
abbrev pub IsPut : Value → Result (List (List ℕ × Value)) PutFault → Type 0
IsPut expected (Ok pairs) = expected ≡ value.Table pairs
IsPut expected (Err fault.TooDeep) = expected ≡ value.Fault Deep
IsPut expected (Err fault.TooHeavy) = expected ≡ value.Fault Big
IsPut expected (Err fault.NoMemory) = Unit {0}

-- the fault for the limit that a table exceeds, if it exceeds one; if it exceeds both, the fault is TooDeep
abbrev pub IsFaultOf : List (List ℕ × Value) → Option PutFault → Type 0
IsFaultOf pairs None = (depth_of (value.Table pairs) ≤ max_value_depth) × (weight_of (value.Table pairs) ≤ max_weight)
IsFaultOf pairs (Some fault.TooDeep) = max_value_depth < depth_of (value.Table pairs)
IsFaultOf pairs (Some fault.TooHeavy) =
    (depth_of (value.Table pairs) ≤ max_value_depth) × (max_weight < weight_of (value.Table pairs))
IsFaultOf pairs (Some fault.NoMemory) = ⊥

-- The same for a table whose pairs have these totals: its depth is one more than the greatest depth of its values, and its weight
-- is five bytes more than that of its pairs.
abbrev pub IsLimitFault : Totals → Option PutFault → Type 0
IsLimitFault totals None = (totals.depth < max_value_depth) × (5 + totals.bytes ≤ max_weight)
IsLimitFault totals (Some fault.TooDeep) = max_value_depth ≤ totals.depth
IsLimitFault totals (Some fault.TooHeavy) = (totals.depth < max_value_depth) × (max_weight < 5 + totals.bytes)
IsLimitFault totals (Some fault.NoMemory) = ⊥
