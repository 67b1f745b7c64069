-- A value beside its encoding. All of this is this project's.
use Rattle.std.specs.Prelude.{◌≡◌, ℕ, List}
use Rattle.ag_value.specs.Spelling.{spelling_of}
use Rattle.ag_value.specs.Well.{IsWell}
use Rattle.ag_value.specs.declared.value.Value.{Value}

-- a well value, and the bytes of its encoding
pub record IsSpelled (value : Value) (bytes : List ℕ) : Type 0 where
  pub well : IsWell value
  pub is : bytes ≡ spelling_of value
