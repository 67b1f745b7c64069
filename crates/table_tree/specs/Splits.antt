-- A table that is not empty. All of this is this project's.
use Rattle.std.specs.Prelude.{◌≡◌, ◌++◌, ◌∷◌, ℕ, List}
use Rattle.ag_value.specs.Well.{IsWell}
use Rattle.ag_value.specs.declared.value.Value.{Value}
use Rattle.ag_value.specs.declared.value.Value.TheVariants as value

-- a well table is the pairs before a pair, the pair, and the pairs after it
pub record IsSplit (pairs before : List (List ℕ × Value)) (pair : List ℕ × Value) (after : List (List ℕ × Value)) : Type 0 where
  pub parts : pairs ≡ before ++ pair ∷ after
  pub well : IsWell (value.Table pairs)
