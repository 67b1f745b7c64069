-- The encoding of a value at the beginning of an input. All of this is this project's.
use Rattle.std.specs.Prelude.{◌≡◌, ◌≤◌, ℕ, List, length, take}
use Rattle.ag_value.specs.Spelling.{spelling_of}
use Rattle.ag_value.specs.Well.{IsWell}
use Rattle.ag_value.specs.declared.value.Value.{Value}

-- the first `len` bytes of `input` are the encoding of `value`, which is well
pub record IsPrefix (value : Value) (input : List ℕ) (len : ℕ) : Type 0 where
  pub within : len ≤ length input
  pub encoded : take len input ≡ spelling_of value
  pub well : IsWell value
