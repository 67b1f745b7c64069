-- The indices of a node's children in an index of a tree.
use Rattle.std.proofs.Common.{◌≡◌, ℕ, zero, suc, ◌+◌, ◌-◌, ◌<◌, List, [], ◌∷◌, ◌++◌, length, map, Some, Ok}
use Rattle.std.proofs.Common.{slice_get, ◌≤◌, refl, ap, sym, append_assoc, arith}
use Rattle.std.proofs.lemmas.List.{append-nil, length-append}
use Rattle.std.proofs.lemmas.Option.{slice_get-map}
use Rattle.ag_grammar.specs.declared.direction.Direction.{Direction}
use Rattle.ag_grammar.specs.declared.grammar.Item.TheVariants as item
use Rattle.ag_grammar.specs.declared.grammar.Item.{Item}
use Rattle.ag_grammar.specs.declared.grammar.Production.{Production}
use Rattle.ag_grammar.specs.declared.grammar.Terminal.TheVariants.{Class}
use Rattle.ag_grammar.specs.grammars.AttributeGrammar.{Grammar, IsProduction, stored_items}
use Rattle.ag_grammar.specs.grammars.Passes.{Passes, nth}
use Rattle.ag_grammar.specs.grammars.Solution.{Valuation, children}
use Rattle.ag_grammar.specs.grammars.Tree.{Fits, Tree, leaf, node, node_count}
use Rattle.treefile.specs.records.TreeFile.{version_two}
use Rattle.treefile.specs.framing.Backward.{next_before}
use Rattle.tree_index.specs.Nodes.{AreEnds, HasChild, HasCount, HasItem, HasLater, HasNodes, IsIndexOf, StandAt}
use Rattle.tree_index.specs.Nodes.{IsSubtreeAt, Subtree, back_from, end_of, in_order, kids, kind_at, kind_in, nodes_in, nodes_of}
use Rattle.tree_index.specs.Nodes.{kind_of, nodes_below, nodes_of_all, record_at, record_of, size_of}
use Rattle.tree_index.specs.declared.index.NodeKind.TheVariants as kind
use Rattle.tree_index.specs.declared.index.TreeIndex.{TreeIndex}
use Rattle.tree_index.proofs.Children.{is_there, kids_length, kids_nodes, nodes_length, order_length, ordered_at}

-- the member after a prefix
at_length : {X : Type 0} (xs : List X) (x : X) (ys : List X) → slice_get (xs ++ x ∷ ys) (length xs) ≡ Some x
at_length [] x ys = refl
at_length (z ∷ xs) x ys = at_length xs x ys

-- a subtree has the index of its node
pub first_of : (d : Direction) (nodes : List Subtree) (n : ℕ) (t : Tree) (v : Valuation) → IsSubtreeAt d nodes n t v
    → slice_get nodes n ≡ Some (record { tree = t; values = v })
first_of d nodes n (leaf c x) v s = cc (at_length s.prefix (record { tree = leaf c x; values = v }) s.others)
first_of d nodes n (node p ts) v s =
    cc (at_length s.prefix (record { tree = node p ts; values = v }) (nodes_of_all d ts (children v) ++ s.others))

-- the root is the first node
pub root_occurs : (d : Direction) (t : Tree) (v : Valuation) → IsSubtreeAt d (nodes_of d t v) 0 t v
root_occurs d t v = record { prefix = []; others = []; split = sym (append-nil (nodes_of d t v)); at = refl }

-- The first of some subtrees has the first index, and the later ones come after it.
module _ {d : Direction} {nodes : List Subtree} {n : ℕ} {kid : Subtree} {later : List Subtree}
    (s : StandAt d nodes n (kid ∷ later)) where
  pub first_occurs : IsSubtreeAt d nodes n kid.tree kid.values
  first_occurs = record {
    prefix = s.prefix;
    others = nodes_in d later ++ s.others;
    split = cc (append_assoc (nodes_below d kid) (nodes_in d later) s.others);
    at = s.at;
  }

  later_occur : StandAt d nodes (n + node_count kid.tree) later
  later_occur = record {
    prefix = s.prefix ++ nodes_below d kid;
    others = s.others;
    split =
        cc (
          append_assoc (nodes_below d kid) (nodes_in d later) s.others,
          append_assoc s.prefix (nodes_below d kid) (nodes_in d later ++ s.others),
        );
    at = omega (arith, length-append s.prefix (nodes_below d kid), nodes_length d kid.tree kid.values);
  }

-- what the index says of a node
pub kind_there : (k : ℕ) (t : Tree) (v : Valuation) (index : TreeIndex) (n : ℕ) (tree : Tree) (w : Valuation)
    → HasNodes k t v index → IsSubtreeAt (back_from k) (nodes_of (back_from k) t v) n tree w
    → kind_in index n ≡ Some (kind_at (record { tree = tree; values = w }))
kind_there k t v index n tree w has s =
    rw (has.kinds, slice_get-map, first_of (back_from k) (nodes_of (back_from k) t v) n tree w s)

-- the children of the root of a tree
abbrev kids_of : Tree → Valuation → List Subtree
kids_of (leaf c x) v = []
kids_of (node p ts) v = kids ts (children v)

-- a node has as many children as the count for its kind says
count_kids : (g : Grammar) (x : Item) (count : ℕ) (tree : Tree) (w : Valuation) → Fits g x tree
    → HasCount g (Some (kind_of tree)) count → length (kids_of tree w) ≡ count
count_kids g x count (leaf c y) w fits counted = sym counted
count_kids g (item.Terminal a) count (node p ts) w fits counted = elim fits [ ]
count_kids g (item.Symbol y) count (node p ts) w fits counted =
    omega (arith, counted fits.0 fits.1, kids_length g (stored_items fits.0.items) ts (children w) fits.3)

module _ {k : ℕ} {t : Tree} {v : Valuation} {index : TreeIndex} {n : ℕ} {tree : Tree} {w : Valuation}
    (has : HasNodes k t v index) (s : IsSubtreeAt (back_from k) (nodes_of (back_from k) t v) n tree w) where
  pub kids_counted : (g : Grammar) (x : Item) (count : ℕ) → Fits g x tree → HasCount g (kind_in index n) count
      → length (kids_of tree w) ≡ count
  kids_counted g x count fits counted =
      count_kids g x count tree w fits (rw (kind_there k t v index n tree w has s) at counted)

  pub size_there : size_of index n ≡ Some (node_count tree)
  size_there = rw (has.sizes, slice_get-map, first_of (back_from k) (nodes_of (back_from k) t v) n tree w s)

  pub size_is : {size : ℕ} → size_of index n ≡ Some size → node_count tree ≡ size
  size_is is = cc size_there

  -- a subtree ends within the nodes
  pub ends_within : n + node_count tree ≤ node_count t
  ends_within =
      let below = nodes_of (back_from k) tree w in
      omega (
        arith,
        ap length s.split,
        length-append s.prefix (below ++ s.others),
        length-append below s.others,
        nodes_length (back_from k) tree w,
        nodes_length (back_from k) t v,
      )

-- no child comes before the first one
pub later_first : (index : TreeIndex) (number : ℕ) → HasLater index number 0 (number + 1)
later_first index number k t v p ts w has few s =
    let top : Subtree = record { tree = node p ts; values = w } in
    record {
      prefix = s.prefix ++ top ∷ [];
      others = s.others;
      split =
          cc (
            append_assoc s.prefix (top ∷ []) (nodes_of_all (back_from k) ts (children w) ++ s.others),
            kids_nodes (back_from k) ts (children w),
          );
      at = omega (arith, length-append s.prefix (top ∷ []));
    }

-- one child more comes before the next one
pub later_next : (index : TreeIndex) (number before child size : ℕ) → size_of index child ≡ Some size
    → HasLater index number before child → HasLater index number (before + 1) (child + size)
later_next index number before child size is later k t v p ts w has few s =
    let ks = kids ts (children w) in
    let found = is_there (in_order (back_from k) ks) before (omega (arith, order_length (back_from k) ks)) in
    let occur = rw found.2 at (later k t v p ts w has (omega arith) s) in
    rw (← size_is has (first_occurs occur) is) (later_occur occur)

pub child_is : (g : Grammar) (index : TreeIndex) (number count place before child : ℕ) → HasCount g (kind_in index number) count
    → before < count → nth (back_from index.pass) count before ≡ place - 1 → 0 < place → HasLater index number before child
    → HasChild g index number place child
child_is g index number count place before child counted less turn from_one later k t v x (leaf c y) w has fits s =
    absurd (omega (arith, kids_counted has s g x count fits counted))
child_is g index number count place before child counted less turn from_one later k t v x (node p ts) w has fits s =
    let ks = kids ts (children w) in
    let many = kids_counted has s g x count fits counted in
    let found = is_there (in_order (back_from k) ks) before (omega (arith, order_length (back_from k) ks)) in
    record {
      index = place - 1;
      counted = omega arith;
      kid = found.0;
      there = cc (ordered_at (back_from k) ks before found.0 found.1);
      occurs = first_occurs (rw found.2 at (later k t v p ts w has (omega arith) s));
    }

-- the record that ends at the offset of a node, which is within the content
end_at : (content : List ℕ) (ends : List ℕ) (bodies : List (List ℕ)) (n end : ℕ) (body : List ℕ) → AreEnds content ends bodies
    → slice_get ends n ≡ Some end → slice_get bodies n ≡ Some body
    → (end ≤ length content) × (next_before version_two content end ≡ Ok (Some body))
end_at content [] bodies n end body a is there = cc
end_at content (e ∷ ends) [] n end body a is there = elim a [ ]
end_at content (e ∷ ends) (b ∷ bodies) zero end body a is there =
    let same : e ≡ end = cc in (omega (arith, a.0), cc a.1)
end_at content (e ∷ ends) (b ∷ bodies) (suc n) end body a is there = end_at content ends bodies n end body a.2 is there

pub record_there : (g : Grammar) (m : Passes) (k : ℕ) (t : Tree) (v : Valuation) (content : List ℕ) (index : TreeIndex)
    (n end : ℕ) (tree : Tree) (w : Valuation) → IsIndexOf g m k t v content index
    → IsSubtreeAt (back_from k) (nodes_of (back_from k) t v) n tree w → end_of index n ≡ Some end
    → (end ≤ length content) × (next_before version_two content end ≡ Ok (Some (record_of g m k tree w)))
record_there g m k t v content index n end tree w indexed s is =
    let nodes = nodes_of (back_from k) t v in
    end_at content index.ends.items (map (record_at g m k) nodes) n end (record_of g m k tree w) indexed.ends is
    (rw (slice_get-map, first_of (back_from k) nodes n tree w s))

-- the item of a node, by the node's production
pub has_node_item : (g : Grammar) (index : TreeIndex) (number p : ℕ) (q : Production) → kind_in index number ≡ Some (kind.Node p)
    → IsProduction g p q → HasItem g index number (item.Symbol q.left)
has_node_item g index number p q what is k t v x (leaf c y) w has fits s = cc (kind_there k t v index number (leaf c y) w has s)
has_node_item g index number p q what is k t v (item.Terminal a) (node r ts) w has fits s = elim fits [ ]
has_node_item g index number p q what is k t v (item.Symbol y) (node r ts) w has fits s =
    cc (kind_there k t v index number (node r ts) w has s, fits.1, fits.2)

-- the item of a token, by its class
pub has_token_item : (g : Grammar) (index : TreeIndex) (number c : ℕ) → kind_in index number ≡ Some (kind.Token c)
    → HasItem g index number (item.Terminal (Class c))
has_token_item g index number c what k t v x (node r ts) w has fits s = cc (kind_there k t v index number (node r ts) w has s)
has_token_item g index number c what k t v (item.Terminal (Class e)) (leaf d y) w has fits s =
    cc (kind_there k t v index number (leaf d y) w has s, fits.0)
has_token_item g index number c what k t v _ (leaf d y) w has fits s = elim fits [ ]
