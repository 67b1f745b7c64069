-- The numbers of tokens of the nodes of a tree.
use Rattle.std.proofs.Common.{◌≡◌, ℕ, zero, suc, ◌+◌, ◌-◌, ◌<◌, ◌≤◌, List, [], ◌∷◌, ◌++◌, Option, None, Some, length, map}
use Rattle.std.proofs.Common.{slice_get, refl, ap, append_assoc, arith}
use Rattle.std.specs.Option.{IfNone, IfSome, SomeIff}
use Rattle.std.proofs.lemmas.List.{length-append}
use Rattle.ag_grammar.specs.declared.direction.Direction.{Direction}
use Rattle.ag_grammar.specs.declared.direction.Direction.TheVariants.{LeftToRight, RightToLeft}
use Rattle.ag_grammar.specs.grammars.AttributeGrammar.{Grammar}
use Rattle.ag_grammar.specs.grammars.Solution.{Valuation, children, rest}
use Rattle.ag_grammar.specs.grammars.Tree.{Forest, Tree, leaf, more, node, node_count, none}
use Rattle.tree_index.specs.Nodes.{HasNodes, IsSubtreeAt, Subtree, back_from, both, kind_at, nodes_of, nodes_of_all, size_of}
use Rattle.tree_index.specs.Tokens.{AreCounts, HasNoTokens, HasTokens, count_before, own_count, token_count, token_counts}
use Rattle.tree_index.specs.declared.index.NodeKind.{NodeKind}
use Rattle.tree_index.specs.declared.index.TreeIndex.{TreeIndex}
use Rattle.tree_index.specs.declared.tokens.TokenCounts.{TokenCounts}
use Rattle.tree_index.proofs.Children.{nodes_length}
use Rattle.tree_index.proofs.Kids.{ends_within, size_is, size_there}

-- no tokens are before the first node
pub none_before : (g : Grammar) (kinds : List NodeKind) → count_before g kinds 0 ≡ 0
none_before g [] = refl
none_before g _ = refl

-- before node n + 1 are the tokens before node n, and the own tokens of node n
pub before_next : (g : Grammar) (kinds : List NodeKind) (n : ℕ) → count_before g kinds (n + 1)
    ≡ count_before g kinds n + own_count g (slice_get kinds n)
before_next g [] n = refl
before_next g (what ∷ kinds) zero = omega (arith, none_before g kinds)
before_next g (what ∷ kinds) (suc n) =
    let one : suc n + 1 ≡ suc (n + 1) = omega arith in
    omega (arith, before_next g kinds n, ap (count_before g (what ∷ kinds)) one)

-- the number of tokens of some nodes
abbrev own_counts : Grammar → List Subtree → ℕ
own_counts g [] = 0
own_counts g (s ∷ ss) = own_count g (Some (kind_at s)) + own_counts g ss

own_append : (g : Grammar) (xs ys : List Subtree) → own_counts g (xs ++ ys) ≡ own_counts g xs + own_counts g ys
own_append g [] ys = omega arith
own_append g (x ∷ xs) ys = omega (arith, own_append g xs ys)

own_both : (g : Grammar) (d : Direction) (xs ys : List Subtree) → own_counts g (both d xs ys) ≡ own_counts g xs + own_counts g ys
own_both g LeftToRight xs ys = own_append g xs ys
own_both g RightToLeft xs ys = omega (arith, own_append g ys xs)

mutual
  own_tree : (g : Grammar) (d : Direction) (t : Tree) (v : Valuation) → own_counts g (nodes_of d t v) ≡ token_count g t
  own_tree g d (leaf c x) v = refl
  own_tree g d (node p ts) v = omega (arith, own_forest g d ts (children v))

  own_forest : (g : Grammar) (d : Direction) (ts : Forest) (vs : ℕ → Valuation) → own_counts g (nodes_of_all d ts vs)
      ≡ token_counts g ts
  own_forest g d none vs = refl
  own_forest g d (more t ts) vs =
      omega (
        arith,
        own_tree g d t (vs 0),
        own_forest g d ts (rest vs),
        own_both g d (nodes_of d t (vs 0)) (nodes_of_all d ts (rest vs)),
      )

-- the tokens of the nodes of a prefix
before_length : (g : Grammar) (xs ys : List Subtree) → count_before g (map kind_at (xs ++ ys)) (length xs) ≡ own_counts g xs
before_length g [] ys = none_before g (map kind_at ys)
before_length g (x ∷ xs) ys = omega (arith, before_length g xs ys)

-- the difference of the counts at a node and at the end of its subtree is the number of tokens of the subtree
subtree_tokens : (g : Grammar) {k : ℕ} {t : Tree} {v : Valuation} {index : TreeIndex} {number : ℕ} {tree : Tree} {w : Valuation}
    → HasNodes k t v index → IsSubtreeAt (back_from k) (nodes_of (back_from k) t v) number tree w
    → count_before g index.kinds.items (number + node_count tree) ≡ count_before g index.kinds.items number + token_count g tree
subtree_tokens g {k} {t} {v} {index} {number} {tree} {w} has s =
    let kinds = index.kinds.items in
    let below = nodes_of (back_from k) tree w in
    let end : length (s.prefix ++ below) ≡ number + node_count tree =
    omega (arith, length-append s.prefix below, nodes_length (back_from k) tree w) in
    let first : count_before g kinds number ≡ own_counts g s.prefix = cc (before_length g s.prefix (below ++ s.others)) in
    let last : count_before g kinds (number + node_count tree) ≡ own_counts g (s.prefix ++ below) =
    cc (before_length g (s.prefix ++ below) s.others, append_assoc s.prefix below s.others) in
    omega (arith, own_append g s.prefix below, own_tree g (back_from k) tree w)

-- what is true of each member of a list and of one more
pub pushed : (f : ℕ → ℕ) (xs : List ℕ) (x : ℕ) → ((i n : ℕ) → slice_get xs i ≡ Some n → n ≡ f i) → x ≡ f (length xs)
    → (i n : ℕ) → slice_get (xs ++ x ∷ []) i ≡ Some n → n ≡ f i
pushed f [] x each last zero n is = cc
pushed f [] x each last (suc i) n is = cc
pushed f (y ∷ xs) x each last zero n is = each zero n is
pushed f (y ∷ xs) x each last (suc i) n is = pushed (λ j. f (suc j)) xs x (λ j m e. each (suc j) m e) last i n is

-- if a fact holds of the difference b - a whenever a is at most b, it holds of the result of a checked subtraction
pub if_tokens : {P : ℕ → Type 0} (r : Option ℕ) (a b : ℕ) → SomeIff r (a ≤ b) (b - a)
    → ((n : ℕ) → (a ≤ b) × (n ≡ b - a) → P n) → IfSome r P
if_tokens None a b is each = tt
if_tokens (Some n) a b is each = each n is

pub if_no_difference : {P : Type 0} (r : Option ℕ) (a b : ℕ) → SomeIff r (a ≤ b) (b - a) → ((a ≤ b → ⊥) → P) → IfNone r P
if_no_difference None a b is each = each is
if_no_difference (Some n) a b is each = tt

pub no_subtree : (index : TreeIndex) (counts : TokenCounts) (number : ℕ) → size_of index number ≡ None
    → HasNoTokens index counts number
no_subtree index counts number nothing g k t v tree w are has long few s = cc (size_there has s)

module _ (index : TreeIndex) (counts : TokenCounts) (number size : ℕ) (of_size : size_of index number ≡ Some size) where
  pub no_end : (number + size < 4294967296 → ⊥) → HasNoTokens index counts number
  no_end full g k t v tree w are has long few s = full (omega (arith, ends_within has s, size_is has s of_size))

  pub no_count : (i : ℕ) → i ≤ number + size → length counts.before.items ≤ i → HasNoTokens index counts number
  no_count i less past g k t v tree w are has long few s = omega (arith, ends_within has s, size_is has s of_size)

  module _ (end first last : ℕ) (at_end : end ≡ number + size) (at_first : slice_get counts.before.items number ≡ Some first)
      (at_last : slice_get counts.before.items end ≡ Some last) where
    -- the counts at the beginning and at the end of a subtree
    counts_differ : (g : Grammar) {k : ℕ} {t : Tree} {v : Valuation} {tree : Tree} {w : Valuation} → AreCounts g index counts
        → HasNodes k t v index → IsSubtreeAt (back_from k) (nodes_of (back_from k) t v) number tree w
        → last ≡ first + token_count g tree
    counts_differ g {tree = tree} are has s =
        let further : end ≡ number + node_count tree = omega (arith, size_is has s of_size) in
        omega (
          arith,
          are.each number first at_first,
          are.each end last at_last,
          ap (count_before g index.kinds.items) further,
          subtree_tokens g has s,
        )

    -- the count at the end of a subtree minus that at its beginning is the number of its tokens
    pub has_tokens : (count : ℕ) → (first ≤ last) × (count ≡ last - first) → HasTokens index counts number count
    has_tokens count is g k t v tree w are has s = omega (arith, is.1, counts_differ g are has s)

    pub no_difference : (first ≤ last → ⊥) → HasNoTokens index counts number
    no_difference fewer g k t v tree w are has long few s = fewer (omega (arith, counts_differ g are has s))
