-- A pair beside its encoding. All of this is this project's.
use Rattle.std.specs.Prelude.{◌≡◌, ◌≤◌, ℕ, List, length, true}
use Rattle.std.specs.Str.{is_utf8}
use Rattle.ag_value.specs.Measure.{depth_of, max_weight}
use Rattle.ag_value.specs.Spelling.{spelling_of_pair}
use Rattle.ag_value.specs.Well.{IsWell, is_item}
use Rattle.ag_value.specs.declared.value.Value.{Value}

-- a pair that a table may have, the bytes of its encoding, and the depth of its value
pub record IsEntry (key : List ℕ) (value : Value) (bytes : List ℕ) (depth : ℕ) : Type 0 where
  pub text : is_utf8 key ≡ true
  pub short : length key ≤ max_weight
  pub well : IsWell value
  pub item : is_item value ≡ true
  pub encoded : bytes ≡ spelling_of_pair (key, value)
  pub depth_is : depth ≡ depth_of value
