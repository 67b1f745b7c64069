-- Values within the limits. All definitions are this project's.
use Rattle.std.specs.Prelude.{◌≡◌, ℕ, ◌-◌, ◌^◌, min, true, List, nat_lt, if◌then◌else◌}
use Rattle.ag_value.specs.declared.value.ErrorCode.TheVariants.{Big, Deep}
use Rattle.ag_value.specs.declared.value.Value.{Value}
use Rattle.ag_value.specs.declared.value.Value.TheVariants as value
use Rattle.ag_value.specs.Measure.{depth_of, weight_of, max_value_depth, max_weight}
use Rattle.ag_value.specs.Well.{IsWell, is_item}

-- The value after the check of the limits: the error `deep` if it is too deep, else the error `big` if it is
-- too heavy, else the value itself.
abbrev pub fit : Value → Value
fit v =
    if nat_lt max_value_depth (depth_of v) then value.Fault Deep
    else (if nat_lt max_weight (weight_of v) then value.Fault Big else v)

-- The value v is well, and has this weight and this depth. This is the invariant of `Measured` of `ag_eval`.
pub record IsMeasured (v : Value) (weight depth : ℕ) : Type 0 where
  pub well : IsWell v
  pub weight_is : weight ≡ weight_of v
  pub depth_is : depth ≡ depth_of v

-- A list may contain these items, and the list of them has this weight and this depth, as `ListBuilder` of `ag_eval` counts
-- them: a weight above 2^64 - 1 counts as 2^64 - 1, and a depth above 2^32 - 1 as 2^32 - 1.
pub record IsGathered (items : List Value) (weight depth : ℕ) : Type 0 where
  pub item : is_item (value.List items) ≡ true
  pub weight_is : weight ≡ min (weight_of (value.List items)) (2 ^ 64 - 1)
  pub depth_is : depth ≡ min (depth_of (value.List items)) (2 ^ 32 - 1)
