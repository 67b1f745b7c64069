-- Derivation trees.
use Rattle.std.specs.Prelude.{ℕ, suc, ◌≡◌, ◌+◌, ◌≤◌, max, List, [], ◌∷◌, length, true}
use Rattle.std.specs.Str.{is_utf8}
use Rattle.ag_grammar.specs.declared.grammar.Item.TheVariants as item
use Rattle.ag_grammar.specs.declared.grammar.Item.{Item}
use Rattle.ag_grammar.specs.declared.grammar.Production.{Production}
use Rattle.ag_grammar.specs.declared.grammar.Terminal.TheVariants.{Literal, Class}
use Rattle.ag_grammar.specs.declared.limits.TheConstants.{MAX_DEPTH, MAX_NODES, MAX_TOKEN_BYTES, MAX_REVERSED_DEPTH}
use Rattle.ag_grammar.specs.declared.limits.TheConstants.{MAX_REVERSED_NODES}
use Rattle.ag_grammar.specs.grammars.AttributeGrammar.{Grammar, stored_items, IsProduction}

mutual
  -- A leaf is a token of a class: its class and its text. A node has the number of its production and one tree for each
  -- child item, from left to right (the textbook; literals have no tree).
  pub data Tree : Type 0 where
    leaf : (class : ℕ) (text : List ℕ) → Tree
    node : (production : ℕ) → Forest → Tree

  pub data Forest : Type 0 where
    none : Forest
    more : Tree → Forest → Forest

-- the maximum length of the text of a token, in bytes (this project's)
abbrev pub max_token_bytes : ℕ
max_token_bytes = MAX_TOKEN_BYTES

-- A token's text is UTF-8 and has at most 65,535 bytes.
pub record IsTokenText (x : List ℕ) : Type 0 where
  pub utf8 : is_utf8 x ≡ true
  pub short : length x ≤ max_token_bytes

-- A tree of an item: a token of its class, or a node with a production of its symbol and trees of that
-- production's children (the textbook).
abbrev mutual
  pub Fits : Grammar → Item → Tree → Type 0
  Fits g (item.Symbol s) (leaf d x) = ⊥
  Fits g (item.Terminal (Class c)) (leaf d x) = (c ≡ d) × IsTokenText x
  Fits g (item.Terminal (Literal l)) (leaf d x) = ⊥
  Fits g (item.Symbol s) (node p ts) = (q : Production) × IsProduction g p q × (q.left ≡ s) × FitsAll g (stored_items q.items) ts
  Fits g (item.Terminal a) (node p ts) = ⊥

  pub FitsAll : Grammar → List Item → Forest → Type 0
  FitsAll g [] none = Unit {0}
  FitsAll g [] (more t ts) = ⊥
  FitsAll g (x ∷ xs) none = ⊥
  FitsAll g (x ∷ xs) (more t ts) = Fits g x t × FitsAll g xs ts

-- A tree of the grammar is a tree of its start symbol (the textbook).
abbrev pub IsTreeOf : Grammar → Tree → Type 0
IsTreeOf g t = Fits g (item.Symbol g.start) t

-- The depth: 1 for a leaf and for a node without children, else one more than the depth of the deepest child
-- (this project's).
abbrev mutual
  pub depth_of : Tree → ℕ
  depth_of (leaf c x) = 1
  depth_of (node p ts) = suc (deepest ts)

  pub deepest : Forest → ℕ
  deepest none = 0
  deepest (more t ts) = max (depth_of t) (deepest ts)

-- The number of nodes, leaves included (this project's).
abbrev mutual
  pub node_count : Tree → ℕ
  node_count (leaf c x) = 1
  node_count (node p ts) = suc (node_counts ts)

  pub node_counts : Forest → ℕ
  node_counts none = 0
  node_counts (more t ts) = node_count t + node_counts ts

-- The maximum depth and the maximum number of nodes of a tree (this project's).
abbrev pub max_depth : ℕ
max_depth = MAX_DEPTH

abbrev pub max_nodes : ℕ
max_nodes = MAX_NODES

-- the maximum depth and the maximum number of nodes of a tree whose file is reversed, or converted from version 1 (this
-- project's)
abbrev pub max_reversed_depth : ℕ
max_reversed_depth = MAX_REVERSED_DEPTH

abbrev pub max_reversed_nodes : ℕ
max_reversed_nodes = MAX_REVERSED_NODES

-- the tree has at most this depth and at most this number of nodes
pub record IsWithinLimits (depth count : ℕ) (t : Tree) : Type 0 where
  pub deep : depth_of t ≤ depth
  pub large : node_count t ≤ count
