-- The node at the end of some places, and its number in an index.
use Rattle.std.proofs.Common.{◌≡◌, ℕ, zero, suc, ◌<◌, List, [], ◌∷◌, ◌++◌, Some, get_or, length, take, drop, ◌+◌, refl}
use Rattle.std.proofs.Common.{subst, arith}
use Rattle.std.proofs.lemmas.List.{drop_more, take-append-drop}
use Rattle.std.proofs.lemmas.Option.{slice_get_within}
use Rattle.ag_grammar.specs.declared.direction.Direction.{Direction}
use Rattle.ag_grammar.specs.declared.grammar.Item.{Item}
use Rattle.ag_grammar.specs.declared.grammar.Item.TheVariants as item
use Rattle.ag_grammar.specs.grammars.AttributeGrammar.{Grammar, stored_items}
use Rattle.ag_grammar.specs.grammars.Solution.{Valuation, children}
use Rattle.ag_grammar.specs.grammars.Tree.{Fits, Tree, leaf, node}
use Rattle.tree_index.specs.Nodes.{HasChild, HasNoChild, HasNoNodeAt, HasNodeAt, IsAtEndOf, IsKidOf, IsSubtreeAt, Subtree}
use Rattle.tree_index.specs.Nodes.{back_from, child_in, kids, nodes_of}
use Rattle.tree_index.specs.declared.index.TreeIndex.{TreeIndex}
use Rattle.tree_index.proofs.Children.{is_there, kid_fits, kids_length}
use Rattle.tree_index.proofs.Kids.{root_occurs}

-- a child is a tree of some item
child_item : (g : Grammar) (x : Item) (t : Tree) (v : Valuation) (place : ℕ) (child : Subtree) → Fits g x t
    → child_in t v place ≡ Some child → (y : Item) × Fits g y child.tree
child_item g x t v zero child f is = cc
child_item g x (leaf c y) v (suc i) child f is = cc
child_item g (item.Terminal a) (node p ts) v (suc i) child f is = elim f [ ]
child_item g (item.Symbol s) (node p ts) v (suc i) child f is =
    let xs = stored_items f.0.items in
    let within = slice_get_within (kids ts (children v)) i child is in
    let found = is_there xs i (omega (arith, kids_length g xs ts (children v) f.3)) in
    (found.0, kid_fits g xs ts (children v) i child found.0 f.3 is found.1)

-- the node at the end of some places is a tree of some item
pub item_at_end : (g : Grammar) (places : List ℕ) (x : Item) (t : Tree) (v : Valuation) (found : Subtree) → Fits g x t
    → IsAtEndOf places t v found → (y : Item) × Fits g y found.tree
item_at_end g [] x t v found f is = (x, rw is f)
item_at_end g (place ∷ places) x t v found f (child, there, further) =
    let fits = child_item g x t v place child f there in
    item_at_end g places fits.0 child.tree child.values found fits.1 further

-- one place more
further_at : (places : List ℕ) (place : ℕ) (t : Tree) (v : Valuation) (s child : Subtree) → IsAtEndOf places t v s
    → child_in s.tree s.values place ≡ Some child → IsAtEndOf (places ++ place ∷ []) t v child
further_at [] place t v s child is there = (child, rw is at there, refl)
further_at (p ∷ places) place t v s child (kid, at, further) there =
    (kid, at, further_at places place kid.tree kid.values s child further there)

-- the child that the index has is that of the tree
pub kid_in : (d : Direction) (nodes : List Subtree) (t : Tree) (v : Valuation) (place number : ℕ)
    → IsKidOf d nodes t v place number → (child : Subtree) × (child_in t v place ≡ Some child)
    × IsSubtreeAt d nodes number child.tree child.values
kid_in d nodes (leaf c x) v place number is = absurd is
kid_in d nodes (node p ts) v place number is = (is.kid, rw is.counted is.there, is.occurs)

pub root_at : (g : Grammar) (index : TreeIndex) → HasNodeAt g index [] 0
root_at g index k t v has tree = record {
  found = record { tree = t; values = v };
  there = refl;
  numbered = root_occurs (back_from k) t v;
}

pub child_at_end : (g : Grammar) (index : TreeIndex) (places : List ℕ) (number place child : ℕ) → HasNodeAt g index places number
    → HasChild g index number place child → HasNodeAt g index (places ++ place ∷ []) child
child_at_end g index places number place child at is k t v has tree =
    let d = back_from k in
    let before = at k t v has tree in
    let fits = item_at_end g places (item.Symbol g.start) t v before.found tree before.there in
    let kid = kid_in d (nodes_of d t v) before.found.tree before.found.values place child
    (is k t v fits.0 before.found.tree before.found.values has fits.1 before.numbered) in
    record {
      found = kid.0;
      there = further_at places place t v before.found kid.0 before.there kid.1;
      numbered = kid.2;
    }

-- at most one node is at the end of some places
one_at_end : (places : List ℕ) (t : Tree) (v : Valuation) (a b : Subtree) → IsAtEndOf places t v a
    → IsAtEndOf places t v b → a ≡ b
one_at_end [] t v a b first second = cc
one_at_end (place ∷ places) t v a b (c, there, further) (d, also, other) =
    let same : d ≡ c = cc in
    one_at_end places c.tree c.values a b further (rw same at other)

-- on the way to a node there is a child at each place
on_the_way : (prefix : List ℕ) (place : ℕ) (others : List ℕ) (t : Tree) (v : Valuation) (found : Subtree)
    → IsAtEndOf (prefix ++ place ∷ others) t v found → (above : Subtree) × (child : Subtree) × IsAtEndOf prefix t v above
    × (child_in above.tree above.values place ≡ Some child)
on_the_way [] place others t v found (child, there, further) = (record { tree = t; values = v }, child, refl, there)
on_the_way (p ∷ prefix) place others t v found (kid, there, further) =
    let later = on_the_way prefix place others kid.tree kid.values found further in
    (later.0, later.1, (kid, there, later.2), later.3)

pub no_node_at : (g : Grammar) (index : TreeIndex) (places : List ℕ) (i number : ℕ) → i < length places
    → HasNodeAt g index (take i places) number → HasNoChild g index number (get_or places i 0) → HasNoNodeAt g index places
no_node_at g index places i number less at nowhere k t v found has few tree there =
    let before = at k t v has tree in
    let prefix = take i places in
    let place = get_or places i 0 in
    let split : places ≡ prefix ++ place ∷ drop (i + 1) places = cc (take-append-drop i places, drop_more places i 0 less) in
    let way = on_the_way prefix place (drop (i + 1) places) t v found
    (subst (λ (ps : List ℕ). IsAtEndOf ps t v found) split there) in
    let same = one_at_end prefix t v before.found way.0 before.there way.2 in
    let fits = item_at_end g prefix (item.Symbol g.start) t v before.found tree before.there in
    let nothing = nowhere k t v fits.0 before.found.tree before.found.values has few fits.1 before.numbered in
    cc (rw same at nothing, way.3)
