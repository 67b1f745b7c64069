-- Trees whose nodes are bodies, and the two orders in which a list has the bodies of a tree.
use Rattle.std.specs.Prelude.{◌≡◌, ℕ, suc, ◌+◌, max, List, [], ◌∷◌, ◌++◌, Option, Some, refl}
use Rattle.ag_grammar.specs.declared.direction.Direction.{Direction}
use Rattle.ag_grammar.specs.declared.direction.Direction.TheVariants.{LeftToRight, RightToLeft}

mutual
  -- A node has its body and one tree for each child, from left to right (this project's).
  pub data BodyTree : Type 0 where
    branch : (body : List ℕ) → BodyForest → BodyTree

  pub data BodyForest : Type 0 where
    none : BodyForest
    more : BodyTree → BodyForest → BodyForest

-- The lists of a child and of the children right of it, joined in a direction: from left to right the child's
-- comes first, and from right to left it comes last (this project's).
abbrev pub joined : Direction → List (List ℕ) → List (List ℕ) → List (List ℕ)
joined LeftToRight child others = child ++ others
joined RightToLeft child others = others ++ child

-- The postfix list of a direction: the lists of the children in that direction, and then the node (the
-- textbook's postorder).
abbrev mutual
  pub postfix : Direction → BodyTree → List (List ℕ)
  postfix d (branch body ts) = postfix_all d ts ++ body ∷ []

  pub postfix_all : Direction → BodyForest → List (List ℕ)
  postfix_all d none = []
  postfix_all d (more t ts) = joined d (postfix d t) (postfix_all d ts)

-- The prefix list of a direction: the node, and then the lists of the children in that direction (the
-- textbook's preorder).
abbrev mutual
  pub prefix : Direction → BodyTree → List (List ℕ)
  prefix d (branch body ts) = body ∷ prefix_all d ts

  pub prefix_all : Direction → BodyForest → List (List ℕ)
  prefix_all d none = []
  prefix_all d (more t ts) = joined d (prefix d t) (prefix_all d ts)

-- the number of trees
abbrev pub tree_count : BodyForest → ℕ
tree_count none = 0
tree_count (more t ts) = suc (tree_count ts)

-- `arity` gives the number of children of each node by its body (the textbook's ranked trees; "rank" is another word for arity).
abbrev mutual
  pub MatchesArity : (List ℕ → Option ℕ) → BodyTree → Type 0
  MatchesArity arity (branch body ts) = (arity body ≡ Some (tree_count ts)) × AllMatchArity arity ts

  pub AllMatchArity : (List ℕ → Option ℕ) → BodyForest → Type 0
  AllMatchArity arity none = Unit {0}
  AllMatchArity arity (more t ts) = MatchesArity arity t × AllMatchArity arity ts

-- The depth: 1 for a node without children, else one more than that of the deepest child (this project's).
abbrev mutual
  pub depth_of : BodyTree → ℕ
  depth_of (branch body ts) = suc (deepest ts)

  pub deepest : BodyForest → ℕ
  deepest none = 0
  deepest (more t ts) = max (depth_of t) (deepest ts)

-- the number of nodes (this project's)
abbrev mutual
  pub node_count : BodyTree → ℕ
  node_count (branch body ts) = suc (node_counts ts)

  pub node_counts : BodyForest → ℕ
  node_counts none = 0
  node_counts (more t ts) = node_count t + node_counts ts

-- ---- worked examples

-- a node with two children, the second of which has one: three levels, and four nodes
abbrev pub small_tree : BodyTree
small_tree = branch (9 ∷ []) (more (branch (7 ∷ []) none) (more (branch (8 ∷ []) (more (branch [] none) none)) none))

pub depth_of_small : depth_of small_tree ≡ 3
depth_of_small = refl

pub nodes_of_small : node_count small_tree ≡ 4
nodes_of_small = refl
