-- The attribute instances of a tree.
use Rattle.causes.proofs.Common
use Common.{ℕ, zero, suc, ◌≡◌, ◌+◌, ◌*◌, ◌<◌, ◌⊎◌, inl, inr, List, [], ◌∷◌, ◌++◌, length, Option, Some, None, slice_get, refl}
use Common.{add-zero, zero-add, arith, length-append, Has, Item, Production, Grammar, IsProduction, Kind, Synthesized, item_at}
use Common.{item_kinds, stored_items, symbol_kinds, Fits, FitsAll, Forest, IsTreeOf, Tree, leaf, more, node, node_count}
use Common.{node_counts, none, place_path, tree_at, child, IsNodeAt}
use Common.item
use Rattle.std.proofs.lemmas.Bool.{cases_eq}
use Rattle.ag_grammar.specs.declared.grammar.Terminal.TheVariants.{Literal, Class}
use Rattle.ag_grammar.proofs.grammars.Children as children
use Rattle.causes.proofs.Paths.{at_path, child_same, fits_at, tree_further}

-- an attribute instance: the path of its node, and the number of the attribute
abbrev pub Instance : Type 0
Instance = List ℕ × ℕ

-- a node that fits an item: the item is the symbol of its production, and its children fit the production
pub item_of : (g : Grammar) (x : Item) (p : ℕ) (ts : Forest) {q : Production} → Fits g x (node p ts) → IsProduction g p q
    → (x ≡ item.Symbol q.left) × FitsAll g (stored_items q.items) ts
item_of g (item.Terminal a) p ts fits is = elim fits [ ]
item_of g (item.Symbol s) p ts {q} fits is = let one : fits.0 ≡ q = cc in (cc fits.2, rw one at fits.3)

-- The instance of an attribute of a token.
pub record IsOfToken (t : Tree) (path : List ℕ) (a : ℕ) (kind : Kind) : Type 0 where
  pub class : ℕ
  pub text : List ℕ
  pub there : tree_at (Some t) path ≡ Some (leaf class text)
  pub lex : a ≡ 0
  pub kind_is : kind ≡ Synthesized

-- an instance of an attribute of a kind
abbrev pub IsInstance : Grammar → Tree → List ℕ → ℕ → Kind → Type 0
IsInstance g t path a kind = ((q : Production) × IsNodeAt g t path q
    × (slice_get (symbol_kinds (slice_get g.symbols q.left)) a ≡ Some kind)) ⊎ IsOfToken t path a kind

-- an attribute instance is of one kind
pub one_kind : {g : Grammar} {t : Tree} {path other : List ℕ} {a b : ℕ} {k l : Kind} → IsInstance g t path a k
    → IsInstance g t other b l → path ≡ other → a ≡ b → k ≡ l
one_kind (inl (q, n, is)) (inl (r, m, others)) same attr = cc
one_kind (inl (q, n, is)) (inr token) same attr = cc
one_kind (inr token) (inl (q, n, is)) same attr = cc
one_kind (inr token) (inr other) same attr = cc

pub child_tree : {g : Grammar} {t : Tree} {path : List ℕ} {q : Production} (n : IsNodeAt g t path q) (i : ℕ)
    → tree_at (Some t) (path ++ i ∷ []) ≡ child n.trees i
child_tree n i = rw (tree_further, n.there)

-- the attribute of a token has number 0, and counts as synthesized
lex_kind : (a : ℕ) {k : Kind} → slice_get (Synthesized ∷ []) a ≡ Some k → (a ≡ 0) × (k ≡ Synthesized)
lex_kind zero is = (refl, cc)
lex_kind (suc a) is = cc

module _ {g : Grammar} {t : Tree} (fits : IsTreeOf g t) where
  -- each node has a production
  pub node_there : (path : List ℕ) {p : ℕ} {ts : Forest} → tree_at (Some t) path ≡ Some (node p ts)
      → (q : Production) × IsNodeAt g t path q
  node_there path {p} {ts} there = by_item (fits_at g path t fits there)
    where
      by_item : (x : Item) × Fits g x (node p ts) → (q : Production) × IsNodeAt g t path q
      by_item (item.Terminal a, fit) = elim fit [ ]
      by_item (item.Symbol s, fit) = (fit.0, record { number = p; trees = ts; there = there; is = fit.1 })

  module _ {path : List ℕ} {q : Production} (n : IsNodeAt g t path q) where
    -- the children of a node fit its production
    pub children_fit : FitsAll g (stored_items q.items) n.trees
    children_fit =
        let fit = fits_at g path t fits n.there in (item_of g fit.0 n.number n.trees fit.1 n.is).1

    -- each child of a node has an item of the production, which it fits
    pub item_there : (i : ℕ) {s : Tree} → tree_at (Some t) (path ++ i ∷ []) ≡ Some s
        → (x : Item) × (slice_get (stored_items q.items) i ≡ Some x) × Fits g x s
    item_there i {s} there =
        children.child_fits g (stored_items q.items) n.trees i s children_fit (cc (child_same n.trees i, child_tree n i))

    -- each item of the production that is a child has a child of the node, which fits it
    tree_there : (i : ℕ) (x : Item) → slice_get (stored_items q.items) i ≡ Some x
        → (s : Tree) × (tree_at (Some t) (path ++ i ∷ []) ≡ Some s) × Fits g x s
    tree_there i x is =
        let found = children.child_exists g (stored_items q.items) n.trees i x children_fit is in
        let there : tree_at (Some t) (path ++ i ∷ []) ≡ Some found.0 = cc (child_same n.trees i, child_tree n i) in
        let item = item_there i there in
        let one : item.0 ≡ x = cc in
        (found.0, there, rw one at item.2)

    -- the instance of an attribute at a place of a node
    pub instance_at : (j a : ℕ) {k : Kind} → slice_get (item_kinds g (item_at q j)) a ≡ Some k
        → IsInstance g t (place_path path j) a k
    instance_at zero a is = inl (q, n, is)
    instance_at (suc i) a {k} is = by_item (slice_get (stored_items q.items) i) refl is
      where
        of_item : (x : Item) → (s : Tree) × (tree_at (Some t) (path ++ i ∷ []) ≡ Some s) × Fits g x s
            → slice_get (item_kinds g (Some x)) a ≡ Some k → IsInstance g t (path ++ i ∷ []) a k
        of_item (item.Symbol s) (node p ts, there, fit) is =
            inl (fit.0, record { number = p; trees = ts; there = there; is = fit.1 }, rw fit.2 is)
        of_item (item.Terminal (Class c)) (leaf d x, there, fit) is =
            let lex = lex_kind a is in
            inr (record { class = d; text = x; there = there; lex = lex.0; kind_is = lex.1 })
        of_item (item.Terminal (Literal l)) found is = cc
        of_item (item.Symbol s) (leaf d x, there, fit) is = elim fit [ ]
        of_item (item.Terminal (Class c)) (node p ts, there, fit) is = elim fit [ ]

        by_item : (x : Option Item) → slice_get (stored_items q.items) i ≡ x → slice_get (item_kinds g x) a ≡ Some k
            → IsInstance g t (path ++ i ∷ []) a k
        by_item None e is = cc
        by_item (Some x) e is = of_item x (tree_there i x e) is

-- the instances with the first n attributes of a node
abbrev of_node : List ℕ → ℕ → List Instance
of_node path zero = []
of_node path (suc n) = (path, n) ∷ of_node path n

-- the instances of a tree, if each node had 16 attributes
abbrev mutual
  pub instances : Tree → List ℕ → List Instance
  instances (leaf c x) path = of_node path 16
  instances (node p ts) path = of_node path 16 ++ instances_in ts path 0

  pub instances_in : Forest → List ℕ → ℕ → List Instance
  instances_in none path n = []
  instances_in (more t ts) path n = instances t (path ++ n ∷ []) ++ instances_in ts path (suc n)

mutual
  pub instance_count : (t : Tree) (path : List ℕ) → length (instances t path) ≡ 16 * node_count t
  instance_count (leaf c x) path = refl
  instance_count (node p ts) path =
      omega (arith, length-append (of_node path 16) (instances_in ts path 0), instance_counts ts path 0)

  instance_counts : (ts : Forest) (path : List ℕ) (n : ℕ) → length (instances_in ts path n) ≡ 16 * node_counts ts
  instance_counts none path n = refl
  instance_counts (more t ts) path n =
      omega (
        arith,
        length-append (instances t (path ++ n ∷ [])) (instances_in ts path (suc n)),
        instance_count t (path ++ n ∷ []),
        instance_counts ts path (suc n),
      )

has_left : {X : Type 0} (xs ys : List X) {x : X} → Has xs x → Has (xs ++ ys) x
has_left [] ys (i, e) = cc
has_left (z ∷ xs) ys (zero, e) = (0, e)
has_left (z ∷ xs) ys (suc i, e) = let later = has_left xs ys (i, e) in (suc later.0, later.1)

has_right : {X : Type 0} (xs ys : List X) {x : X} → Has ys x → Has (xs ++ ys) x
has_right [] ys h = h
has_right (z ∷ xs) ys h = let later = has_right xs ys h in (suc later.0, later.1)

at_node : (path : List ℕ) (n a : ℕ) → a < n → Has (of_node path n) (path, a)
at_node path zero a less = absurd (omega arith)
at_node path (suc n) a less = elim (cases_eq a n) [
  | inl same ↦ rw same (0, refl)
  | inr other ↦ (let later = at_node path n a (omega arith) in (suc later.0, later.1))
]

-- the instances of a child are some of those of all children
in_forest : (ts : Forest) (path : List ℕ) (n i : ℕ) (s : Tree) (x : Instance) → children.child ts i ≡ Some s
    → Has (instances s (path ++ (n + i) ∷ [])) x → Has (instances_in ts path n) x
in_forest none path n i s x e h = cc
in_forest (more t ts) path n zero s x e h =
    let same : s ≡ t = cc in
    has_left (instances t (path ++ n ∷ [])) (instances_in ts path (suc n)) (rw (same, add-zero) at h)
in_forest (more t ts) path n (suc i) s x e h =
    let number : n + suc i ≡ suc n + i = omega arith in
    has_right (instances t (path ++ n ∷ [])) (instances_in ts path (suc n)) (in_forest ts path (suc n) i s x e (rw number at h))

-- Each instance of a tree is one of `instances`.
pub instance_among : (t : Tree) (path : List ℕ) (a : ℕ) {u : Tree} → tree_at (Some t) path ≡ Some u → a < 16
    → Has (instances t []) (path, a)
instance_among t path a {u} there less =
    at_path (λ p s. (x : Instance) → Has (instances s p) x → Has (instances t []) x) (λ p number ts i s all is x has.
    all x (has_right (of_node p 16) (instances_in ts p 0) (in_forest ts p 0 i s x is (rw zero-add has)))) path t (λ x has. has)
    there (path, a) (own u)
  where
    own : (u : Tree) → Has (instances u path) (path, a)
    own (leaf c x) = at_node path 16 a less
    own (node p ts) = has_left (of_node path 16) (instances_in ts path 0) (at_node path 16 a less)
