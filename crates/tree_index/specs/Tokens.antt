-- The numbers of tokens of the nodes of a tree. Literals count as tokens. All of this is this project's.
use Rattle.std.specs.Prelude.{ℕ, zero, suc, ◌≡◌, ◌+◌, ◌<◌, ◌^◌, List, [], ◌∷◌, Option, None, Some, length, slice_get}
use Rattle.ag_grammar.specs.declared.grammar.Item.TheVariants as item
use Rattle.ag_grammar.specs.declared.grammar.Item.{Item}
use Rattle.ag_grammar.specs.declared.grammar.Production.{Production}
use Rattle.ag_grammar.specs.declared.grammar.Terminal.TheVariants.{Class, Literal}
use Rattle.ag_grammar.specs.grammars.AttributeGrammar.{Grammar}
use Rattle.ag_grammar.specs.grammars.Solution.{Valuation}
use Rattle.ag_grammar.specs.grammars.Tree.{Forest, Tree, leaf, more, node, node_count, none}
use Rattle.tree_index.specs.Nodes.{HasNodes, IsSubtreeAt, back_from, nodes_of}
use Rattle.tree_index.specs.Reading.{in_four_bytes}
use Rattle.tree_index.specs.declared.index.NodeKind.{NodeKind}
use Rattle.tree_index.specs.declared.index.NodeKind.TheVariants as kind
use Rattle.tree_index.specs.declared.index.TreeIndex.{TreeIndex}
use Rattle.tree_index.specs.declared.tokens.TokenCounts.{TokenCounts}

-- the number of literals of a right side
abbrev pub literal_count : List Item → ℕ
literal_count [] = 0
literal_count (item.Symbol s ∷ xs) = literal_count xs
literal_count (item.Terminal (Class c) ∷ xs) = literal_count xs
literal_count (item.Terminal (Literal l) ∷ xs) = suc (literal_count xs)

-- the number of literals of a production; 0 if there is none
abbrev pub literals_in : Option Production → ℕ
literals_in None = 0
literals_in (Some q) = literal_count q.items

-- The number of a node's own tokens, without those of the nodes below it: 1 for a token of a class, and the number of literals
-- of its production for another node. 0 if there is no node, or the grammar does not have the production.
abbrev pub own_count : Grammar → Option NodeKind → ℕ
own_count g None = 0
own_count g (Some (kind.Token c)) = 1
own_count g (Some (kind.Node p)) = literals_in (slice_get g.productions p)

-- the number of own tokens of the first n nodes
abbrev pub count_before : Grammar → List NodeKind → ℕ → ℕ
count_before g [] n = 0
count_before g (what ∷ kinds) zero = 0
count_before g (what ∷ kinds) (suc n) = own_count g (Some what) + count_before g kinds n

-- the number of tokens of a tree, with those of all its nodes
abbrev mutual
  pub token_count : Grammar → Tree → ℕ
  token_count g (leaf c x) = 1
  token_count g (node p ts) = literals_in (slice_get g.productions p) + token_counts g ts

  pub token_counts : Grammar → Forest → ℕ
  token_counts g none = 0
  token_counts g (more t ts) = token_count g t + token_counts g ts

-- Count i is the number of own tokens of the nodes before node i of an index. The last count is that of all nodes.
pub record AreCounts (g : Grammar) (index : TreeIndex) (counts : TokenCounts) : Type 0 where
  pub long : length counts.before.items ≡ suc (in_four_bytes (length index.ends.items))
  pub each : (i n : ℕ) → slice_get counts.before.items i ≡ Some n → n ≡ count_before g index.kinds.items i

-- If the counts are those of the index, `count` is the number of tokens of the subtree of node `number` in each tree that the
-- index has.
abbrev pub HasTokens : TreeIndex → TokenCounts → ℕ → ℕ → Type 0
HasTokens index counts number count = (g : Grammar) (k : ℕ) (t : Tree) (v : Valuation) (tree : Tree) (w : Valuation)
    → AreCounts g index counts → HasNodes k t v index → IsSubtreeAt (back_from k) (nodes_of (back_from k) t v) number tree w
    → count ≡ token_count g tree

-- Take a tree of fewer than 2 ^ 32 nodes that the index has. If the counts are those of the index, and the index has as many ends
-- as the tree has nodes, no node of the tree has this number.
abbrev pub HasNoTokens : TreeIndex → TokenCounts → ℕ → Type 0
HasNoTokens index counts number = (g : Grammar) (k : ℕ) (t : Tree) (v : Valuation) (tree : Tree) (w : Valuation)
    → AreCounts g index counts → HasNodes k t v index → length index.ends.items ≡ node_count t → node_count t < 2 ^ 32
    → IsSubtreeAt (back_from k) (nodes_of (back_from k) t v) number tree w → ⊥
