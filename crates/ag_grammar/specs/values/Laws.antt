-- Statements of the laws about the results of operations.
use Rattle.std.specs.Prelude.{◌≡◌, ◌↔◌, ◌<◌, ◌≤◌, pos}
use Rattle.ag_value.specs.declared.value.ErrorCode.TheVariants.{Big, Deep}
use Rattle.ag_value.specs.declared.value.Value.{Value}
use Rattle.ag_value.specs.declared.value.Value.TheVariants as value
use Rattle.ag_value.specs.Measure.{depth_of, max_value_depth, max_weight, weight_of}
use Rattle.ag_value.specs.Well.{IsWell}
use Rattle.ag_value.specs.operations.Fitting.{fit}
use Rattle.ag_grammar.specs.values.Operators.{comparison_result}
use Rattle.ag_value.specs.operations.Tables.{get_result, keys_of}

-- `fit` makes the error `deep` of a value that is too deep, even if it is also too heavy.
abbrev pub DeepComesFirst : Type 0
DeepComesFirst = (v : Value) → max_value_depth < depth_of v → fit v ≡ value.Fault Deep

-- `fit` makes the error `big` of a value that is too heavy but not too deep.
abbrev pub BigComesNext : Type 0
BigComesNext = (v : Value) → depth_of v ≤ max_value_depth → max_weight < weight_of v → fit v ≡ value.Fault Big

-- `fit` leaves a value unchanged that is neither too deep nor too heavy.
abbrev pub WhatFitsStays : Type 0
WhatFitsStays = (v : Value) → depth_of v ≤ max_value_depth → weight_of v ≤ max_weight → fit v ≡ v

-- `comparison_result`, the result of `==` for operands that are not errors, is 1 for two well values if and only if they
-- are the same.
abbrev pub SameIsOne : Type 0
SameIsOne = (v w : Value) → IsWell v → IsWell w → (comparison_result v w ≡ value.Num (pos 1)) ↔ (v ≡ w)

-- If their first argument is well, the results of `keys` and `get` are well, without a check of the limits.
abbrev pub KeysAreWell : Type 0
KeysAreWell = (table : Value) → IsWell table → IsWell (keys_of table)

abbrev pub GetIsWell : Type 0
GetIsWell = (table key : Value) → IsWell table → IsWell (get_result table key)
