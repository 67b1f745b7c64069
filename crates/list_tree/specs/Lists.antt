-- A list and its encoding. All of this is this project's.
use Rattle.std.specs.Prelude.{◌≡◌, ℕ, List, map}
use Rattle.ag_value.specs.Spelling.{joined, spelling_of}
use Rattle.ag_value.specs.Well.{IsWell}
use Rattle.ag_value.specs.declared.value.Value.{Value}
use Rattle.ag_value.specs.declared.value.Value.TheVariants as value

-- `items` are the items of a well list, and `encodings` consists of the encodings of the items, one after the other
pub record IsList (items : List Value) (encodings : List ℕ) : Type 0 where
  pub well : IsWell (value.List items)
  pub encoded : encodings ≡ joined (map spelling_of items)
