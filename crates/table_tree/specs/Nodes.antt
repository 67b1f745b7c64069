-- The pairs of a tree. All of this is this project's.
use Rattle.std.specs.Prelude.{◌≡◌, ◌++◌, ◌∷◌, [], ℕ, List, Option, IfSome, map}
use Rattle.ag_value.specs.Well.{IsWell}
use Rattle.ag_value.specs.declared.value.Value.{Value}
use Rattle.ag_value.specs.declared.value.Value.TheVariants as value
use Rattle.ag_value.specs.Spelling.{joined, spelling_of_pair}
use Rattle.table_tree.specs.Totals.{AreBytes, AreTotals}
use Rattle.table_tree.specs.declared.totals.Totals.{Totals}
use Rattle.table_tree.specs.declared.tree.TableNode.{TableNode}
use Rattle.table_tree.specs.declared.tree.TableNode.TheVariants.{Leaf, Fork}

-- the pairs in the order of their keys; `left` and `right` are trees, which contracts and definitions see as the lists of their
-- pairs
abbrev pub pairs_of : TableNode → List (List ℕ × Value)
pairs_of Leaf = []
pairs_of (Fork rc) = rc.value.left ++ rc.value.entry.value ∷ rc.value.right

-- The pairs are a well table, and `totals` are its totals. All numbers in the encodings of the pairs are bytes. The block, if
-- there is one, has these encodings one after the other.
pub record IsTotalled (pairs : List (List ℕ × Value)) (totals : Totals) (block : Option (List ℕ)) : Type 0 where
  pub well : IsWell (value.Table pairs)
  pub are : AreTotals pairs totals
  pub bytes : AreBytes (joined (map spelling_of_pair pairs))
  pub block_is : IfSome block (λ encoded. encoded ≡ joined (map spelling_of_pair pairs))

-- The pairs of a fork are a well table, and the fork's totals and block are those of its pairs. Nothing is required of a leaf,
-- which is an empty tree. The height may be any number.
abbrev pub IsNode : TableNode → Type 0
IsNode Leaf = Unit {0}
IsNode (Fork rc) = IsTotalled (pairs_of (Fork rc)) rc.value.totals rc.value.block
