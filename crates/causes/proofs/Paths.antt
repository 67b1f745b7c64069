-- Paths in a tree, and places, which count from 1.
use Rattle.causes.proofs.Common
use Common.{ℕ, zero, suc, ◌≡◌, List, length, length-append, ap, arith, Production, Rule, Target, Table, Solves, IsRule, at, Next}
use Common.{DoesNext, IsInTree, IsNodeAt, [], ◌∷◌, ◌++◌, map, Option, Some, None, refl, sym, append_assoc, append-nil, Item}
use Common.{Grammar, stored_items, Valuation, below, Fits, IsTreeOf, Forest, Tree, more, node, none, tree_at, values_at, child}
use Common.{child_of, place_path}
use Common.item
use Rattle.ag_grammar.proofs.grammars.Children as children
use Rattle.ag_grammar.specs.grammars.Solution as nodes
use Rattle.origins.specs.Causes.{IsRuleAt}

-- a list of places determines the path of child numbers, which count from 0
pub same_path : (xs ys : List ℕ) → map suc xs ≡ map suc ys → xs ≡ ys
same_path [] [] e = refl
same_path (x ∷ xs) (y ∷ ys) e =
    let tail : map suc xs ≡ map suc ys = cc in
    cc (same_path xs ys tail)
same_path _ _ e = cc

-- a list of places is split at one of them; the path is split at the same index
pub record IsSplit (path prefix : List ℕ) (place : ℕ) (others : List ℕ) : Type 0 where
  pub before : List ℕ
  pub number : ℕ
  pub beyond : List ℕ
  pub counted : prefix ≡ map suc before
  pub placed : place ≡ suc number
  pub split : path ≡ before ++ number ∷ beyond
  pub last : others ≡ map suc beyond

pub split_path : (path prefix : List ℕ) {place : ℕ} {others : List ℕ} → map suc path ≡ prefix ++ place ∷ others
    → IsSplit path prefix place others
split_path (x ∷ xs) [] e =
    record { before = []; number = x; beyond = xs; counted = refl; placed = cc; split = refl; last = cc }
split_path (x ∷ xs) (y ∷ ys) {place} {others} e =
    let tail : map suc xs ≡ ys ++ place ∷ others = cc in
    let s = split_path xs ys tail in
    record {
      before = x ∷ s.before;
      number = s.number;
      beyond = s.beyond;
      counted = cc s.counted;
      placed = s.placed;
      split = cc s.split;
      last = s.last;
    }
split_path [] [] e = cc
split_path [] (y ∷ ys) e = cc

-- the path that a place leads to
place_at : (beyond : List ℕ) {place number : ℕ} {path : List ℕ} → place ≡ suc number → path ≡ beyond ++ number ∷ []
    → path ≡ place_path beyond place
place_at beyond placed split = rw placed split

-- the last place is one more than the last number of the path
pub last_place : (path there : List ℕ) {place : ℕ} → map suc path ≡ there ++ place ∷ [] → (beyond : List ℕ) × (number : ℕ)
    × (there ≡ map suc beyond) × (place ≡ suc number) × (path ≡ beyond ++ number ∷ []) × (path ≡ place_path beyond place)
last_place path there e =
    let s = split_path path there e in
    let none_beyond = same_path [] s.beyond s.last in
    let split = rw (← none_beyond) at s.split in
    (s.before, s.number, s.counted, s.placed, split, place_at s.before s.placed split)

-- equal lists have the same last number and the same numbers before it
pub last_same : (xs ys : List ℕ) (x y : ℕ) → xs ++ x ∷ [] ≡ ys ++ y ∷ [] → (xs ≡ ys) × (x ≡ y)
last_same [] [] x y e = (refl, cc)
last_same (a ∷ xs) (b ∷ ys) x y e =
    let tail : xs ++ x ∷ [] ≡ ys ++ y ∷ [] = cc in
    let h = last_same xs ys x y tail in (cc h.0, h.1)
last_same [] (b ∷ ys) x y e = absurd (omega (arith, ap length e, length-append ys (y ∷ [])))
last_same (a ∷ xs) [] x y e = absurd (omega (arith, ap length e, length-append xs (x ∷ [])))

-- one step more on a path
pub tree_further : (t : Option Tree) (path : List ℕ) (i : ℕ) → tree_at t (path ++ i ∷ []) ≡ child_of (tree_at t path) i
tree_further t [] i = refl
tree_further t (j ∷ path) i = tree_further (child_of t j) path i

pub values_further : (v : Valuation) (path : List ℕ) (i : ℕ) → values_at v (path ++ i ∷ []) ≡ below i (values_at v path)
values_further v [] i = refl
values_further v (j ∷ path) i = values_further (below j v) path i

no_tree : (path : List ℕ) {u : Tree} → tree_at None path ≡ Some u → ⊥
no_tree [] e = cc
no_tree (i ∷ path) e = no_tree path e

-- on the way to a node there is a node with a child at each number of the path
abbrev IsOnWay : Option Tree → List ℕ → ℕ → List ℕ → Tree → Type 0
IsOnWay t before i beyond u = (p : ℕ) × (ts : Forest) × (tree_at t before ≡ Some (node p ts)) × (s : Tree) × (child ts i ≡ Some s)
    × (tree_at (Some s) beyond ≡ Some u)

pub on_way : (before : List ℕ) (t : Option Tree) (i : ℕ) (beyond : List ℕ) {u : Tree} → tree_at t (before ++ i ∷ beyond) ≡ Some u
    → IsOnWay t before i beyond u
on_way (j ∷ before) t i beyond e = on_way before (child_of t j) i beyond e
on_way [] (Some (node p ts)) i beyond {u} e = by_child (child ts i) refl e
  where
    by_child : (o : Option Tree) → child ts i ≡ o → tree_at o beyond ≡ Some u → IsOnWay (Some (node p ts)) [] i beyond u
    by_child None is e = absurd (no_tree beyond e)
    by_child (Some s) is e = (p, ts, refl, s, is, e)
on_way [] _ i beyond e = absurd (no_tree beyond e)

-- both definitions of a child mean the same
pub child_same : (ts : Forest) (i : ℕ) → child ts i ≡ children.child ts i
child_same none i = refl
child_same (more t ts) zero = refl
child_same (more t ts) (suc i) = child_same ts i

-- What a node passes on to each child holds at the end of each path, if it holds at the root.
module _ (P : List ℕ → Tree → Type 0)
    (further : (path : List ℕ) (p : ℕ) (ts : Forest) (i : ℕ) (s : Tree) → P path (node p ts)
    → children.child ts i ≡ Some s → P (path ++ i ∷ []) s) where
  at_end : (deeper path : List ℕ) (t : Tree) {s : Tree} → P path t → tree_at (Some t) deeper ≡ Some s → P (path ++ deeper) s
  at_end [] path t {s} h e = let same : s ≡ t = cc in rw (append-nil, same) h
  at_end (i ∷ deeper) path t h e =
      let (p, ts, is, u, there, beyond) = on_way [] (Some t) i deeper e in
      let same : t ≡ node p ts = cc in
      rw (← append_assoc path (i ∷ []) deeper)
      (at_end deeper (path ++ i ∷ []) u (further path p ts i u (rw same at h) (cc (child_same ts i))) beyond)

  pub at_path : (path : List ℕ) (t : Tree) {s : Tree} → P [] t → tree_at (Some t) path ≡ Some s → P path s
  at_path path t h e = at_end path [] t h e

-- the tree at the end of a path fits an item
pub fits_at : (g : Grammar) (path : List ℕ) (t : Tree) {s : Tree} → IsTreeOf g t → tree_at (Some t) path ≡ Some s
    → (x : Item) × Fits g x s
fits_at g path t fits there = at_path (λ _ s. (x : Item) × Fits g x s) further path t (item.Symbol g.start, fits) there
  where
    further : (path : List ℕ) (p : ℕ) (ts : Forest) (i : ℕ) (s : Tree) → (x : Item) × Fits g x (node p ts)
        → children.child ts i ≡ Some s → (x : Item) × Fits g x s
    further path p ts i s (item.Terminal a, f) is = elim f [ ]
    further path p ts i s (item.Symbol y, f) is =
        let found = children.child_fits g (stored_items f.0.items) ts i s f.3 is in (found.0, found.2)

-- the values in a tree at the end of a path solve there what they solve in the whole tree
pub solves_at : (W : Production → Rule → Type 0) (g : Grammar) (path : List ℕ) (t : Tree) {s : Tree} (v : Valuation)
    → Solves W g t v → tree_at (Some t) path ≡ Some s → Solves W g s (values_at v path)
solves_at W g path t v =
    at_path (λ p s. Solves W g s (values_at v p)) (λ p _ ts i s h is. rw (values_further v p i)
    (children.child_solves W g ts (nodes.children (values_at v p)) i s h.1 is)) path t

-- the node of a tree at the end of a path
module _ {g : Grammar} {t : Tree} {v : Valuation} {path : List ℕ} where
  -- what a rule does at a node with the tree's values
  pub reads : {q : Production} {target : Target} {does : Next} → IsNodeAt g t path q
      → DoesNext q.rules (at (values_at v path)) target does → IsInTree g t v (map suc path) target does
  reads {q} n next = record {
    path = path;
    counted = refl;
    production = n.number;
    trees = n.trees;
    there = n.there;
    of = q;
    is = n.is;
    next = next;
  }

  pub read_at : {target : Target} {does : Next} → IsInTree g t v (map suc path) target does
      → (q : Production) × IsNodeAt g t path q × DoesNext q.rules (at (values_at v path)) target does
  read_at found =
      let same = same_path found.path path (sym found.counted) in (
        found.of,
        record { number = found.production; trees = found.trees; there = rw same at found.there; is = found.is },
        rw same at found.next,
      )

  -- a rule of the node's production is a rule at the node
  pub rule_at : {q : Production} {r : Rule} → IsNodeAt g t path q → IsRule q r → IsRuleAt g t v path r (at (values_at v path))
  rule_at {q} n is = record {
    production = n.number;
    trees = n.trees;
    there = n.there;
    of = q;
    is = n.is;
    rule = is;
    values = refl;
  }

  -- the node of a rule
  pub node_of : {r : Rule} {e : Table} (is : IsRuleAt g t v path r e) → IsNodeAt g t path is.of
  node_of is = record { number = is.production; trees = is.trees; there = is.there; is = is.is }
