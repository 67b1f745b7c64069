-- The nodes of a tree, and the children of a node, in the order of a reading.
use Rattle.std.proofs.Common.{◌≡◌, ℕ, zero, suc, ◌+◌, ◌-◌, ◌<◌, List, [], ◌∷◌, length, drop, map, reverse, get_or, Some}
use Rattle.std.proofs.Common.{slice_get, refl, ap, arith}
use Rattle.std.proofs.lemmas.Grind.{flat_map-append}
use Rattle.std.proofs.lemmas.List.{append-nil, drop_more, get_or-reverse, length-append, length-reverse, map-append}
use Rattle.std.proofs.lemmas.List.{reverse-append}
use Rattle.std.proofs.lemmas.Option.{get_or_from_slice_get, slice_get-get_or, slice_get_read, slice_get_within}
use Rattle.ag_grammar.specs.declared.grammar.Item.{Item}
use Rattle.ag_grammar.specs.declared.direction.Direction.{Direction}
use Rattle.ag_grammar.specs.declared.direction.Direction.TheVariants.{LeftToRight, RightToLeft}
use Rattle.ag_grammar.specs.grammars.AttributeGrammar.{Grammar}
use Rattle.ag_grammar.specs.grammars.Passes.{Passes, nth}
use Rattle.ag_grammar.specs.grammars.Solution.{Valuation, children, rest}
use Rattle.ag_grammar.specs.grammars.Tree.{Fits, FitsAll, Forest, Tree, leaf, node, node_count, node_counts, none, more}
use Rattle.treefile.specs.records.Orders.{joined, prefix, prefix_all}
use Rattle.treefile.specs.records.Records.{bodies_of, bodies_of_all}
use Rattle.treefile.specs.records.TreeFile.{version_two}
use Rattle.tree_index.specs.Nodes.{Subtree, both, in_order, kids, nodes_below, nodes_in, nodes_of, nodes_of_all, record_at}

-- a child with its values, as `kids` lists it
abbrev kid_of : Tree → Valuation → Subtree
kid_of t v = record { tree = t; values = v }

-- the nodes of all children
pub kids_nodes : (d : Direction) (ts : Forest) (vs : ℕ → Valuation) → nodes_in d (in_order d (kids ts vs)) ≡ nodes_of_all d ts vs
kids_nodes LeftToRight none vs = refl
kids_nodes RightToLeft none vs = refl
kids_nodes LeftToRight (more t ts) vs = cc (kids_nodes LeftToRight ts (rest vs))
kids_nodes RightToLeft (more t ts) vs =
    let kid = kid_of t (vs 0) in
    let others = kids ts (rest vs) in
    cc (
      reverse-append (kid ∷ []) others,
      flat_map-append (nodes_below RightToLeft) (reverse others) (kid ∷ []),
      kids_nodes RightToLeft ts (rest vs),
      append-nil (nodes_of RightToLeft t (vs 0)),
    )

map_both : (f : Subtree → List ℕ) (d : Direction) (xs ys : List Subtree) → map f (both d xs ys) ≡ joined d (map f xs) (map f ys)
map_both f LeftToRight xs ys = map-append f xs ys
map_both f RightToLeft xs ys = map-append f ys xs

-- the records of the nodes are those of the file
module _ (g : Grammar) (m : Passes) (k : ℕ) (d : Direction) where
  mutual
    pub records_of_nodes : (t : Tree) (v : Valuation) → map (record_at g m k) (nodes_of d t v) ≡ prefix d
        (bodies_of version_two g m k t v)
    records_of_nodes (leaf c x) v = refl
    records_of_nodes (node p ts) v = cc (records_of_all ts (children v))

    records_of_all : (ts : Forest) (vs : ℕ → Valuation) → map (record_at g m k) (nodes_of_all d ts vs) ≡ prefix_all d
        (bodies_of_all version_two g m k ts vs)
    records_of_all none vs = refl
    records_of_all (more t ts) vs = cc (
      map_both (record_at g m k) d (nodes_of d t (vs 0)) (nodes_of_all d ts (rest vs)),
      records_of_nodes t (vs 0),
      records_of_all ts (rest vs),
    )

length_both : {X : Type 0} (d : Direction) (xs ys : List X) → length (both d xs ys) ≡ length xs + length ys
length_both LeftToRight xs ys = length-append xs ys
length_both RightToLeft xs ys = omega (arith, length-append ys xs)

-- `nodes_of` has as many nodes as `node_count` counts
mutual
  pub nodes_length : (d : Direction) (t : Tree) (v : Valuation) → length (nodes_of d t v) ≡ node_count t
  nodes_length d (leaf c x) v = refl
  nodes_length d (node p ts) v = ap suc (nodes_length_all d ts (children v))

  pub nodes_length_all : (d : Direction) (ts : Forest) (vs : ℕ → Valuation) → length (nodes_of_all d ts vs) ≡ node_counts ts
  nodes_length_all d none vs = refl
  nodes_length_all d (more t ts) vs = omega (
    arith,
    length_both d (nodes_of d t (vs 0)) (nodes_of_all d ts (rest vs)),
    nodes_length d t (vs 0),
    nodes_length_all d ts (rest vs),
  )

-- a child fits the item of its number
pub kid_fits : (g : Grammar) (xs : List Item) (ts : Forest) (vs : ℕ → Valuation) (i : ℕ) (kid : Subtree) (x : Item)
    → FitsAll g xs ts → slice_get (kids ts vs) i ≡ Some kid → slice_get xs i ≡ Some x → Fits g x kid.tree
kid_fits g xs none vs i kid x f at is = cc
kid_fits g [] (more t ts) vs i kid x f at is = elim f [ ]
kid_fits g (y ∷ xs) (more t ts) vs zero kid x f at is =
    let same : kid_of t (vs 0) ≡ kid = cc in
    let item : y ≡ x = cc in
    rw (← same, ← item) f.0
kid_fits g (y ∷ xs) (more t ts) vs (suc i) kid x f at is = kid_fits g xs ts (rest vs) i kid x f.1 at is

-- a node has as many children as its right side has stored items
pub kids_length : (g : Grammar) (xs : List Item) (ts : Forest) (vs : ℕ → Valuation) → FitsAll g xs ts
    → length (kids ts vs) ≡ length xs
kids_length g [] none vs f = refl
kids_length g (x ∷ xs) (more t ts) vs f = ap suc (kids_length g xs ts (rest vs) f.1)
kids_length g _ _ vs f = elim f [ ]

pub order_length : {X : Type 0} (d : Direction) (xs : List X) → length (in_order d xs) ≡ length xs
order_length LeftToRight xs = refl
order_length RightToLeft xs = length-reverse xs

-- the element at index i in the order of a direction is that at index `nth d (length xs) i` from the left
pub ordered_at : {X : Type 0} (d : Direction) (xs : List X) (i : ℕ) (x : X) → slice_get (in_order d xs) i ≡ Some x
    → slice_get xs (nth d (length xs) i) ≡ Some x
ordered_at LeftToRight xs i x e = e
ordered_at RightToLeft xs i x e =
    let less : i < length xs = omega (arith, slice_get_within (reverse xs) i x e, length-reverse xs) in
    let place : length xs - suc i ≡ length xs - 1 - i = omega arith in
    slice_get_read xs (length xs) (length xs - suc i) x refl (omega arith)
    (cc (get_or-reverse xs i x less, get_or_from_slice_get (reverse xs) i x x e))

-- the element at an index of a list, and the list from there on
pub is_there : {X : Type 0} (xs : List X) (i : ℕ) → i < length xs
    → (x : X) × (slice_get xs i ≡ Some x) × (drop i xs ≡ x ∷ drop (i + 1) xs)
is_there [] i less = absurd (omega arith)
is_there (x ∷ xs) i less = (get_or (x ∷ xs) i x, slice_get-get_or (x ∷ xs) i x less, drop_more (x ∷ xs) i x less)
