-- If `child` finds no child at a place in the index, the node has none there in the tree.
use Rattle.std.proofs.Common.{◌≡◌, ℕ, zero, suc, ◌+◌, ◌<◌, ◌≤◌, Option, None, Some, length}
use Rattle.std.proofs.Common.{refl, ap, arith}
use Rattle.std.specs.Option.{IfNone}
use Rattle.std.proofs.lemmas.Option.{slice_get_past}
use Rattle.ag_grammar.specs.grammars.AttributeGrammar.{Grammar}
use Rattle.ag_grammar.specs.grammars.Solution.{Valuation, children}
use Rattle.ag_grammar.specs.grammars.Tree.{Forest, Tree, leaf, node, node_count}
use Rattle.tree_index.specs.Nodes.{HasCount, HasLater, HasNoChild, HasNoLater, HasNodes, IsSubtreeAt, back_from}
use Rattle.tree_index.specs.Nodes.{child_in, in_order, kids, kind_in, nodes_of, size_of}
use Rattle.tree_index.specs.declared.index.TreeIndex.{TreeIndex}
use Rattle.tree_index.proofs.Children.{is_there, order_length}
use Rattle.tree_index.proofs.Kids.{ends_within, first_occurs, kids_counted, later_first, size_there}

-- the number of the child that comes next and the size of its subtree are together at most the number of nodes
child_within : (index : TreeIndex) (number before child : ℕ) (k : ℕ) (t : Tree) (v : Valuation) (p : ℕ) (ts : Forest)
    (w : Valuation) → HasLater index number before child → HasNodes k t v index → before < length (kids ts (children w))
    → IsSubtreeAt (back_from k) (nodes_of (back_from k) t v) number (node p ts) w → (size : ℕ) × (size_of index child ≡ Some size)
    × (child + size ≤ node_count t)
child_within index number before child k t v p ts w later has less s =
    let ks = kids ts (children w) in
    let found = is_there (in_order (back_from k) ks) before (omega (arith, order_length (back_from k) ks)) in
    let occurs = first_occurs (rw found.2 at (later k t v p ts w has (omega arith) s)) in
    (node_count found.0.tree, size_there has occurs, ends_within has occurs)

pub no_first : (index : TreeIndex) (number before : ℕ) → (number + 1 < 4294967296 → ⊥) → HasNoLater index number before
no_first index number before full k t v p ts w has few less s =
    let within = child_within index number 0 (number + 1) k t v p ts w (later_first index number) has (omega arith) s in
    full (omega (arith, within.2))

module _ (index : TreeIndex) (number before i child : ℕ) (earlier : i < before) (later : HasLater index number i child) where
  pub no_size : size_of index child ≡ None → HasNoLater index number before
  no_size nothing k t v p ts w has few less s =
      let within = child_within index number i child k t v p ts w later has (omega arith) s in
      cc within.1

  pub no_room : (size : ℕ) → size_of index child ≡ Some size → (child + size < 4294967296 → ⊥) → HasNoLater index number before
  no_room size of_size full k t v p ts w has few less s =
      let within = child_within index number i child k t v p ts w later has (omega arith) s in
      let same : within.0 ≡ size = cc within.1 in
      full (omega (arith, within.2))

-- no child has the place 0
pub no_place : (g : Grammar) (index : TreeIndex) (number place : ℕ) → place ≡ 0 → HasNoChild g index number place
no_place g index number place is k t v x tree w has few fits s = ap (child_in tree w) is

-- a node has no child at a place greater than the number of its children
pub few_children : (g : Grammar) (index : TreeIndex) (number place count : ℕ) → HasCount g (kind_in index number) count
    → count < place → HasNoChild g index number place
few_children g index number zero count counted more k t v x tree w has few fits s = absurd (omega arith)
few_children g index number (suc i) count counted more k t v x (leaf c y) w has few fits s = refl
few_children g index number (suc i) count counted more k t v x (node p ts) w has few fits s =
    slice_get_past (kids ts (children w)) i (omega (arith, kids_counted has s g x count fits counted))

-- `HasNoLater` says that the node has at most `before` children, but it has more: this case does not occur
pub no_child : (g : Grammar) (index : TreeIndex) (number before count place : ℕ) → HasCount g (kind_in index number) count
    → before < count → HasNoLater index number before → HasNoChild g index number place
no_child g index number before count place counted less none k t v x (leaf c y) w has few fits s =
    absurd (omega (arith, kids_counted has s g x count fits counted))
no_child g index number before count place counted less none k t v x (node p ts) w has few fits s =
    absurd (none k t v p ts w has few (omega (arith, kids_counted has s g x count fits counted)) s)

-- a fact that holds in any case also holds if r is `None`
pub if_none : (r : Option ℕ) {P : Type 0} → P → IfNone r P
if_none None h = h
if_none (Some n) h = tt

pub if_none_then : (r : Option ℕ) {P Q : Type 0} → IfNone r P → (P → Q) → IfNone r Q
if_none_then None h f = f h
if_none_then (Some n) h f = tt
