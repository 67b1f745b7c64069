-- The children of a tree, by index.
use Rattle.ag_grammar.proofs.Common
use Common.{ℕ, zero, suc, ◌≡◌, List, [], ◌∷◌, Option, Some, None, slice_get, refl, ap, ◌∙◌, subst, ◌<◌, arith, Value, Item}
use Common.{Production, Rule, Literal, Class, Grammar, Tree, Forest, leaf, node, none, more, Fits, FitsAll, Passes, item_passes}
use Common.{Valuation, rest, Solves, SolvesAll, AtEachNode, AtEachNodeOf, left_passes}
use Common.item

-- the child with index i
abbrev pub child : Forest → ℕ → Option Tree
child none i = None
child (more t ts) zero = Some t
child (more t ts) (suc i) = child ts i

-- the number of children
abbrev pub size : Forest → ℕ
size none = 0
size (more t ts) = suc (size ts)

-- induction on a tree; the hypothesis covers each child by its index
mutual
  pub tree_ind : (P : Tree → Type 0) → ((c : ℕ) (x : List ℕ) → P (leaf c x))
      → ((p : ℕ) (ts : Forest) → ((i : ℕ) (t : Tree) → child ts i ≡ Some t → P t) → P (node p ts)) → (t : Tree) → P t
  tree_ind P l n (leaf c x) = l c x
  tree_ind P l n (node p ts) = n p ts (forest_ind P l n ts)

  pub forest_ind : (P : Tree → Type 0) → ((c : ℕ) (x : List ℕ) → P (leaf c x))
      → ((p : ℕ) (ts : Forest) → ((i : ℕ) (t : Tree) → child ts i ≡ Some t → P t) → P (node p ts)) → (ts : Forest)
      → (i : ℕ) (t : Tree) → child ts i ≡ Some t → P t
  forest_ind P l n none i t e = cc
  forest_ind P l n (more s ts) zero t e = let e' : s ≡ t = cc in subst P e' (tree_ind P l n s)
  forest_ind P l n (more s ts) (suc i) t e = forest_ind P l n ts i t e

pub child_within : (ts : Forest) (i : ℕ) (t : Tree) → child ts i ≡ Some t → i < size ts
child_within none i t e = cc
child_within (more s ts) zero t e = omega arith
child_within (more s ts) (suc i) t e = let h = child_within ts i t e in omega arith

pub child_fits : (g : Grammar) (xs : List Item) (ts : Forest) (i : ℕ) (t : Tree) → FitsAll g xs ts → child ts i ≡ Some t
    → (x : Item) × (slice_get xs i ≡ Some x) × Fits g x t
child_fits g [] none i t f e = cc
child_fits g (x ∷ xs) none i t f e = elim f [ ]
child_fits g [] (more s ts) i t f e = elim f [ ]
child_fits g (x ∷ xs) (more s ts) zero t f e = (x, refl, let e' : s ≡ t = cc in subst (Fits g x) e' f.0)
child_fits g (x ∷ xs) (more s ts) (suc i) t f e = child_fits g xs ts i t f.1 e

pub child_exists : (g : Grammar) (xs : List Item) (ts : Forest) (i : ℕ) (x : Item) → FitsAll g xs ts → slice_get xs i ≡ Some x
    → (t : Tree) × (child ts i ≡ Some t)
child_exists g [] none i x f e = cc
child_exists g (y ∷ xs) none i x f e = elim f [ ]
child_exists g [] (more s ts) i x f e = elim f [ ]
child_exists g (y ∷ xs) (more s ts) zero x f e = (s, refl)
child_exists g (y ∷ xs) (more s ts) (suc i) x f e = child_exists g xs ts i x f.1 e

pub child_solves : (W : Production → Rule → Type 0) (g : Grammar) (ts : Forest) (vs : ℕ → Valuation) (i : ℕ) (t : Tree)
    → SolvesAll W g ts vs → child ts i ≡ Some t → Solves W g t (vs i)
child_solves W g none vs i t h e = cc
child_solves W g (more s ts) vs zero t h e = let e' : s ≡ t = cc in subst (λ x. Solves W g x (vs 0)) e' h.0
child_solves W g (more s ts) vs (suc i) t h e = child_solves W g ts (rest vs) i t h.1 e

pub child_each : (R : List ℕ → (ℕ → Value) → (ℕ → Value) → Type 0) (g : Grammar) (m : Passes) (ts : Forest)
    (vs ws : ℕ → Valuation) (i : ℕ) (t : Tree) → AtEachNodeOf R g m ts vs ws → child ts i ≡ Some t
    → AtEachNode R g m t (vs i) (ws i)
child_each R g m none vs ws i t h e = cc
child_each R g m (more s ts) vs ws zero t h e = let e' : s ≡ t = cc in subst (λ x. AtEachNode R g m x (vs 0) (ws 0)) e' h.0
child_each R g m (more s ts) vs ws (suc i) t h e = child_each R g m ts (rest vs) (rest ws) i t h.1 e

pub children_each : (R : List ℕ → (ℕ → Value) → (ℕ → Value) → Type 0) (g : Grammar) (m : Passes) (ts : Forest)
    (vs ws : ℕ → Valuation) → ((i : ℕ) (t : Tree) → child ts i ≡ Some t → AtEachNode R g m t (vs i) (ws i))
    → AtEachNodeOf R g m ts vs ws
children_each R g m none vs ws h = tt
children_each R g m (more s ts) vs ws h = (h 0 s refl, children_each R g m ts (rest vs) (rest ws) (λ i t e. h (suc i) t e))

-- what holds at each node holds at the root of a tree that fits an item, with the passes of the item
pub root_each : (R : List ℕ → (ℕ → Value) → (ℕ → Value) → Type 0) (g : Grammar) (m : Passes) (x : Item) (t : Tree)
    (v w : Valuation) → Fits g x t → AtEachNode R g m t v w → R (item_passes m (Some x)) (v []) (w [])
root_each R g m (item.Terminal (Class c)) (leaf d x) v w f h = h
root_each R g m (item.Terminal (Literal l)) (leaf d x) v w f h = elim f [ ]
root_each R g m (item.Symbol s) (leaf d x) v w f h = elim f [ ]
root_each R g m (item.Terminal (Class c)) (node p ts) v w f h = elim f [ ]
root_each R g m (item.Terminal (Literal l)) (node p ts) v w f h = elim f [ ]
root_each R g m (item.Symbol s) (node p ts) v w f h = let e : left_passes m (slice_get g.productions p) ≡ m s =
    ap (left_passes m) f.1 ∙ ap m f.2 in subst (λ ps. R ps (v []) (w [])) e h.0
