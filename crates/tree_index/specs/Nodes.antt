-- The nodes of a tree in the order in which the tree's file is read from its end, and the index that has these nodes. In these
-- definitions g is a grammar, m the passes of its attributes, k the number of a pass, t a tree, v the values of its attributes,
-- and d a direction. p is the number of a production and c that of a class. ts are the children of a node from left to right, and
-- vs their values. All of this is this project's.
use Rattle.std.specs.Prelude.{ℕ, zero, suc, ◌≡◌, ◌<◌, ◌^◌, List, [], ◌∷◌, ◌++◌, ◌≤◌, drop, map, reverse, length, slice_get}
use Rattle.std.specs.Prelude.{Option, None, Some, Ok}
use Rattle.std.specs.List.{flat_map}
use Rattle.ag_grammar.specs.declared.direction.Direction.{Direction}
use Rattle.ag_grammar.specs.declared.direction.Direction.TheVariants.{LeftToRight, RightToLeft}
use Rattle.ag_grammar.specs.declared.grammar.Item.{Item}
use Rattle.ag_grammar.specs.declared.grammar.Production.{Production}
use Rattle.ag_grammar.specs.grammars.AttributeGrammar.{Grammar, IsProduction, stored_items}
use Rattle.ag_grammar.specs.grammars.Passes.{IsLegal, Passes, direction_of, other}
use Rattle.ag_grammar.specs.grammars.Solution.{Valuation, children, rest}
use Rattle.ag_grammar.specs.grammars.Tree.{Fits, Forest, IsTreeOf, Tree, leaf, node, node_count, none, more}
use Rattle.treefile.specs.records.Records.{IsFileOfTree, copies_of, node_body, token_body}
use Rattle.treefile.specs.records.TreeFile.{version_two}
use Rattle.treefile.specs.framing.Backward.{next_before}
use Rattle.tree_index.specs.declared.index.NodeKind.{NodeKind}
use Rattle.tree_index.specs.declared.index.NodeKind.TheVariants as kind
use Rattle.tree_index.specs.declared.index.TreeIndex.{TreeIndex}

-- a node of a tree: the subtree whose root it is, with its values
pub record Subtree : Type 0 where
  pub tree : Tree
  pub values : Valuation

-- the children of a node from left to right
abbrev pub kids : Forest → (ℕ → Valuation) → List Subtree
kids none vs = []
kids (more t ts) vs = record { tree = t; values = vs 0 } ∷ kids ts (rest vs)

-- the list xs in the order of a direction; xs itself is in the order from left to right
abbrev pub in_order : {X : Type 0} → Direction → List X → List X
in_order LeftToRight xs = xs
in_order RightToLeft xs = reverse xs

-- the nodes of a child's subtree, and those of the subtrees of the children right of it, joined in a direction
abbrev pub both : {X : Type 0} → Direction → List X → List X → List X
both LeftToRight child others = child ++ others
both RightToLeft child others = others ++ child

-- The nodes of a tree in the prefix order of a direction: each node before its children, and the children in the direction.
abbrev mutual
  pub nodes_of : Direction → Tree → Valuation → List Subtree
  nodes_of d (leaf c x) v = record { tree = leaf c x; values = v } ∷ []
  nodes_of d (node p ts) v = record { tree = node p ts; values = v } ∷ nodes_of_all d ts (children v)

  pub nodes_of_all : Direction → Forest → (ℕ → Valuation) → List Subtree
  nodes_of_all d none vs = []
  nodes_of_all d (more t ts) vs = both d (nodes_of d t (vs 0)) (nodes_of_all d ts (rest vs))

-- the nodes of one subtree
abbrev pub nodes_below : Direction → Subtree → List Subtree
nodes_below d s = nodes_of d s.tree s.values

-- the nodes of some subtrees, one after the other
abbrev pub nodes_in : Direction → List Subtree → List Subtree
nodes_in d subtrees = flat_map (nodes_below d) subtrees

-- what the root of a tree is
abbrev pub kind_of : Tree → NodeKind
kind_of (leaf c x) = kind.Token c
kind_of (node p ts) = kind.Node p

-- what a node is
abbrev pub kind_at : Subtree → NodeKind
kind_at s = kind_of s.tree

-- the number of nodes of a subtree
abbrev pub size_at : Subtree → ℕ
size_at s = node_count s.tree

-- the body of the record of a tree's root in the file of pass k, by the assignment m
abbrev pub record_of : Grammar → Passes → ℕ → Tree → Valuation → List ℕ
record_of g m k (leaf c x) v = token_body c x
record_of g m k (node p ts) v = node_body version_two g m k p (v []) (copies_of g m k ts (children v))

-- the same for a node
abbrev pub record_at : Grammar → Passes → ℕ → Subtree → List ℕ
record_at g m k s = record_of g m k s.tree s.values

-- A frame ends at each of these offsets within a content. Its body is the one at the same index of the list of bodies.
abbrev pub AreEnds : List ℕ → List ℕ → List (List ℕ) → Type 0
AreEnds content [] [] = Unit {0}
AreEnds content [] (body ∷ bodies) = ⊥
AreEnds content (end ∷ ends) [] = ⊥
AreEnds content (end ∷ ends) (body ∷ bodies) = (end ≤ length content)
    × (next_before version_two content end ≡ Ok (Some body)) × AreEnds content ends bodies

-- the direction in which the file of a pass is read from its end
abbrev pub back_from : ℕ → Direction
back_from pass = other (direction_of pass)

-- An index of the file of pass k has the nodes of a tree: what each node is, and the number of nodes of its subtree.
pub record HasNodes (k : ℕ) (t : Tree) (v : Valuation) (index : TreeIndex) : Type 0 where
  pub pass : index.pass ≡ k
  pub kinds : index.kinds.items ≡ map kind_at (nodes_of (back_from k) t v)
  pub sizes : index.sizes.items ≡ map size_at (nodes_of (back_from k) t v)

-- An index is that of a tree whose file of pass k is the content: the records of the nodes end where the index says.
pub record IsIndexOf (g : Grammar) (m : Passes) (k : ℕ) (t : Tree) (v : Valuation) (content : List ℕ) (index : TreeIndex) : Type 0
  where
    pub nodes : HasNodes k t v index
    pub ends : AreEnds content index.ends.items (map (record_at g m k) (nodes_of (back_from k) t v))

-- P holds for each legal assignment m, pass k, tree t of the grammar and values v such that the content is the file of pass k of
-- t and v by m. k is below 2^16, since a header has two bytes for it.
abbrev pub OfEach : (Passes → ℕ → Tree → Valuation → Type 0) → Grammar → List ℕ → Type 0
OfEach P g content = (m : Passes) (k : ℕ) (t : Tree) (v : Valuation) → k < 2 ^ 16 → IsLegal g m → IsTreeOf g t
    → IsFileOfTree version_two g m k t v content → P m k t v

-- The index is that of each tree of which the content is a file.
abbrev pub IsIndexIn : Grammar → List ℕ → TreeIndex → Type 0
IsIndexIn g content index = OfEach (λ m k t v. IsIndexOf g m k t v content index) g content

-- the offset at which the record of the node with this number ends, by an index; None if the index does not have it
abbrev pub end_of : TreeIndex → ℕ → Option ℕ
end_of index number = slice_get index.ends.items number

-- what the node with this number is, by an index
abbrev pub kind_in : TreeIndex → ℕ → Option NodeKind
kind_in index number = slice_get index.kinds.items number

-- the number of nodes of the subtree of the node with this number, by an index
abbrev pub size_of : TreeIndex → ℕ → Option ℕ
size_of index number = slice_get index.sizes.items number

-- `count` is the number of children of a node of this kind: 0 for a token and for `None`. Nothing is claimed of a
-- production that the grammar does not have.
abbrev pub HasCount : Grammar → Option NodeKind → ℕ → Type 0
HasCount g None count = count ≡ 0
HasCount g (Some (kind.Token c)) count = count ≡ 0
HasCount g (Some (kind.Node p)) count = (q : Production) → IsProduction g p q → count ≡ length (stored_items q.items)

-- A list of nodes has the nodes of the tree t with the values v, one after the other, from index `number` on.
pub record IsSubtreeAt (d : Direction) (nodes : List Subtree) (number : ℕ) (t : Tree) (v : Valuation) : Type 0 where
  pub prefix : List Subtree
  pub others : List Subtree
  pub split : nodes ≡ prefix ++ (nodes_of d t v ++ others)
  pub at : length prefix ≡ number

-- A list of nodes has the nodes of some subtrees, one subtree after the other, from index `number` on.
pub record StandAt (d : Direction) (nodes : List Subtree) (number : ℕ) (subtrees : List Subtree) : Type 0 where
  pub prefix : List Subtree
  pub others : List Subtree
  pub split : nodes ≡ prefix ++ (nodes_in d subtrees ++ others)
  pub at : length prefix ≡ number

-- In a list of nodes, `number` is the index of the child at a place (from 1) of a node with the children ts. The tree of this
-- node has the values v.
pub record IsKid (d : Direction) (nodes : List Subtree) (ts : Forest) (v : Valuation) (place number : ℕ) : Type 0 where
  pub index : ℕ
  pub counted : place ≡ suc index
  pub kid : Subtree
  pub there : slice_get (kids ts (children v)) index ≡ Some kid
  pub occurs : IsSubtreeAt d nodes number kid.tree kid.values

-- the same for a tree, which has no children if it is a leaf
abbrev pub IsKidOf : Direction → List Subtree → Tree → Valuation → ℕ → ℕ → Type 0
IsKidOf d nodes (leaf c x) v place number = ⊥
IsKidOf d nodes (node p ts) v place number = IsKid d nodes ts v place number

-- In each tree of the grammar that the index has, `child` is the number of the child of node `number` at `place`, which counts
-- from 1. (x is the item of this node, `tree` its subtree, and w its values.)
abbrev pub HasChild : Grammar → TreeIndex → ℕ → ℕ → ℕ → Type 0
HasChild g index number place child = (k : ℕ) (t : Tree) (v : Valuation) (x : Item) (tree : Tree) (w : Valuation)
    → HasNodes k t v index → Fits g x tree → IsSubtreeAt (back_from k) (nodes_of (back_from k) t v) number tree w
    → IsKidOf (back_from k) (nodes_of (back_from k) t v) tree w place child

-- Take the children of node `number` in the direction in which the file is read, without the first `before` ones. In each tree
-- that the index has, the nodes of their subtrees, one subtree after the other, have the numbers `child`, `child` + 1 and so on.
-- Nothing is claimed of a node with fewer than `before` children.
abbrev pub HasLater : TreeIndex → ℕ → ℕ → ℕ → Type 0
HasLater index number before child = (k : ℕ) (t : Tree) (v : Valuation) (p : ℕ) (ts : Forest) (w : Valuation)
    → HasNodes k t v index → before ≤ length (kids ts (children w))
    → IsSubtreeAt (back_from k) (nodes_of (back_from k) t v) number (node p ts) w
    → StandAt (back_from k) (nodes_of (back_from k) t v) child (drop before (in_order (back_from k) (kids ts (children w))))

-- In each tree of the grammar that an index has, the item of the node of a number is `found`.
abbrev pub HasItem : Grammar → TreeIndex → ℕ → Item → Type 0
HasItem g index number found = (k : ℕ) (t : Tree) (v : Valuation) (x : Item) (tree : Tree) (w : Valuation) → HasNodes k t v index
    → Fits g x tree → IsSubtreeAt (back_from k) (nodes_of (back_from k) t v) number tree w → x ≡ found

-- the child at a place, which counts from 1
abbrev pub child_in : Tree → Valuation → ℕ → Option Subtree
child_in t v zero = None
child_in (leaf c x) v (suc index) = None
child_in (node p ts) v (suc index) = slice_get (kids ts (children v)) index

-- The node `found` is at the end of the path that goes from the root of a tree to the child at each of these places, from 1.
abbrev pub IsAtEndOf : List ℕ → Tree → Valuation → Subtree → Type 0
IsAtEndOf [] t v found = found ≡ record { tree = t; values = v }
IsAtEndOf (place ∷ places) t v found = (child : Subtree) × (child_in t v place ≡ Some child)
    × IsAtEndOf places child.tree child.values found

-- `number` is the number of the node of a tree at the end of the path of these places.
pub record IsNumberIn (d : Direction) (t : Tree) (v : Valuation) (places : List ℕ) (number : ℕ) : Type 0 where
  pub found : Subtree
  pub there : IsAtEndOf places t v found
  pub numbered : IsSubtreeAt d (nodes_of d t v) number found.tree found.values

-- In each tree of the grammar that the index has, `number` is the number of the node at the end of the path of these places.
abbrev pub HasNodeAt : Grammar → TreeIndex → List ℕ → ℕ → Type 0
HasNodeAt g index places number = (k : ℕ) (t : Tree) (v : Valuation) → HasNodes k t v index → IsTreeOf g t
    → IsNumberIn (back_from k) t v places number

-- In each tree of fewer than 2 ^ 32 nodes that the index has, node `number` has at most `before` children.
abbrev pub HasNoLater : TreeIndex → ℕ → ℕ → Type 0
HasNoLater index number before = (k : ℕ) (t : Tree) (v : Valuation) (p : ℕ) (ts : Forest) (w : Valuation) → HasNodes k t v index
    → node_count t < 2 ^ 32 → before < length (kids ts (children w))
    → IsSubtreeAt (back_from k) (nodes_of (back_from k) t v) number (node p ts) w → ⊥

-- In each tree of the grammar that the index has, with fewer than 2 ^ 32 nodes, node `number` has no child at `place`.
abbrev pub HasNoChild : Grammar → TreeIndex → ℕ → ℕ → Type 0
HasNoChild g index number place = (k : ℕ) (t : Tree) (v : Valuation) (x : Item) (tree : Tree) (w : Valuation)
    → HasNodes k t v index → node_count t < 2 ^ 32 → Fits g x tree
    → IsSubtreeAt (back_from k) (nodes_of (back_from k) t v) number tree w → child_in tree w place ≡ None

-- In each tree of the grammar that the index has, with fewer than 2 ^ 32 nodes, no node is at the end of the path of the places.
abbrev pub HasNoNodeAt : Grammar → TreeIndex → List ℕ → Type 0
HasNoNodeAt g index places = (k : ℕ) (t : Tree) (v : Valuation) (found : Subtree) → HasNodes k t v index
    → node_count t < 2 ^ 32 → IsTreeOf g t → IsAtEndOf places t v found → ⊥

-- The path of these places leads to a node, which has the same number in each tree of the grammar that the index has.
abbrev pub LeadsToNode : Grammar → TreeIndex → List ℕ → Type 0
LeadsToNode g index places = (number : ℕ) × HasNodeAt g index places number
