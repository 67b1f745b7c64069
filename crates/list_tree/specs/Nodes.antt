-- The items of a tree. All of this is this project's.
use Rattle.std.specs.Prelude.{◌≡◌, ◌++◌, ◌∷◌, ◌+◌, ◌<◌, [], List, length}
use Rattle.ag_value.specs.declared.value.Value.{Value}
use Rattle.list_tree.specs.declared.items.ItemNode.{ItemNode}
use Rattle.list_tree.specs.declared.items.ItemNode.TheVariants.{Empty, Fork, Item}

-- the items of a tree in their order; `left` and `right` are trees, which contracts and definitions see as the lists of their
-- items
abbrev pub items_of : ItemNode → List Value
items_of Empty = []
items_of (Item item) = item.value ∷ []
items_of (Fork branch) = branch.value.left ++ branch.value.right

-- `items` is `left` and then `right`, and neither of these two lists is empty
pub record IsCut (items left right : List Value) : Type 0 where
  pub parts : items ≡ left ++ right
  pub some_left : 0 < length left
  pub some_right : 0 < length right

-- Neither side of a fork is empty, and the number that the fork stores (`len`) is that of the items of both sides. Nothing is
-- required of an empty tree, of a single item, or of the height.
abbrev pub IsNode : ItemNode → Type 0
IsNode Empty = Unit {0}
IsNode (Item item) = Unit {0}
IsNode (Fork branch) =
    (branch.value.len ≡ length branch.value.left + length branch.value.right) × (0 < length branch.value.left)
    × (0 < length branch.value.right)
