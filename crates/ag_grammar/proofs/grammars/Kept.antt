-- Equations stay true in later passes.
use Rattle.ag_grammar.proofs.Common
use Common.{ℕ, zero, suc, ◌≡◌, ◌≤◌, List, [], Option, Some, None, slice_get, refl, ap, ◌∙◌, sym, subst, arith, Each, Item}
use Common.{Production, Rule, Literal, Class, Grammar, stored_items, item_at, Tree, Forest, leaf, node, none, more, Fits, FitsAll}
use Common.{Passes, item_passes, HasPass, IsLegalFor, Valuation, children, rest, at, RulesHold, Solves, SolvesAll, AnyRule}
use Common.{NoRule, OfPass, SameAt, Same, AnyPass, AtEachNodeOf, left_passes}
use Common.item
use Rattle.ag_grammar.proofs.grammars.Children.{child, tree_ind, child_fits, child_exists, child_solves, child_each, root_each}
use Rattle.ag_grammar.proofs.grammars.EachNode.{OfPasses, solves_each, solves_wider}
use Rattle.ag_grammar.proofs.grammars.OneSolution.{may_le}
use Rattle.ag_grammar.proofs.grammars.Rules.{holds_same}

-- values that are the same at a node and at the root of each child are the same at each place
pub at_places : (W : ℕ → Type 0) (g : Grammar) (m : Passes) (q : Production) (ts : Forest) (v w : Valuation)
    → FitsAll g (stored_items q.items) ts → SameAt W (m q.left) (v []) (w [])
    → AtEachNodeOf (SameAt W) g m ts (children v) (children w) → (j : ℕ)
    → SameAt W (item_passes m (item_at q j)) (at v j) (at w j)
at_places W g m q ts v w f root below' zero = root
at_places W g m q ts v w f root below' (suc i) = go (slice_get (stored_items q.items) i) refl
  where
    go : (o : Option Item) → slice_get (stored_items q.items) i ≡ o → SameAt W (item_passes m o) (at v (suc i)) (at w (suc i))
    go None e = λ a p s h. cc
    go (Some x) e =
        let c = child_exists g (stored_items q.items) ts i x f e in
        let h = child_fits g (stored_items q.items) ts i c.0 f c.1 in
        let same : h.0 ≡ x = let z : Some h.0 ≡ Some x = sym h.1 ∙ e in cc in
        root_each (SameAt W) g m x c.0 (children v i) (children w i) (subst (λ y. Fits g y c.0) same h.2)
        (child_each (SameAt W) g m ts (children v) (children w) i c.0 below' c.1)

solves_all : (W : Production → Rule → Type 0) (g : Grammar) (ts : Forest) (vs : ℕ → Valuation)
    → ((i : ℕ) (t : Tree) → child ts i ≡ Some t → Solves W g t (vs i)) → SolvesAll W g ts vs
solves_all W g none vs h = tt
solves_all W g (more s ts) vs h = (h 0 s refl, solves_all W g ts (rest vs) (λ i t c. h (suc i) t c))

abbrev Kept : Grammar → Passes → ℕ → ℕ → Tree → Type 0
Kept g m k j t = (x : Item) (v w : Valuation) → Fits g x t → Same (λ p. p ≤ j) g m t v w → Solves (OfPass m k) g t v
    → Solves (OfPass m k) g t w

module _ (g : Grammar) (m : Passes) (k j : ℕ) (legal : Each (IsLegalFor (HasPass m)) g.productions) (le : k ≤ j) where
  leaf_kept : (c : ℕ) (x : List ℕ) → Kept g m k j (leaf c x)
  leaf_kept c y x v w f s h = sym (s 0 0 refl (omega arith)) ∙ h

  node_kept : (p : ℕ) (ts : Forest) → ((i : ℕ) (t : Tree) → child ts i ≡ Some t → Kept g m k j t) → Kept g m k j (node p ts)
  node_kept p ts ih (item.Terminal (Class c)) v w f s h = elim f [ ]
  node_kept p ts ih (item.Terminal (Literal l)) v w f s h = elim f [ ]
  node_kept p ts ih (item.Symbol c) v w f s h =
      let q = f.0 in
      let root : SameAt (λ p. p ≤ j) (m q.left) (v []) (w []) =
      subst (λ ps. SameAt (λ p. p ≤ j) ps (v []) (w [])) (ap (left_passes m) f.1) s.0 in
      let there = at_places (λ p. p ≤ j) g m q ts v w f.3 root s.1 in
      let rules : RulesHold (OfPass m k) (Some q) (at v) = subst (λ o. RulesHold (OfPass m k) o (at v)) f.1 h.0 in (
        subst (λ o. RulesHold (OfPass m k) o (at w)) (sym f.1) (λ r rule pass.
            holds_same r (at v) (at w) (there r.target.place r.target.attr k pass le)
            (λ o arg. let u = legal p q f.1 r o k rule arg pass in let l = may_le k r.target.place o.place u.0 u.2 in
            there o.place o.attr u.0 u.1 (omega arith))
            (rules r rule pass)),
        solves_all (OfPass m k) g ts (children w)
            (λ i t c. let y = child_fits g (stored_items q.items) ts i t f.3 c in
            ih i t c y.0 (children v i) (children w i) y.2
            (child_each (SameAt (λ p. p ≤ j)) g m ts (children v) (children w) i t s.1 c)
            (child_solves (OfPass m k) g ts (children v) i t h.1 c)),
      )

  kept : (t : Tree) → Kept g m k j t
  kept t = tree_ind (Kept g m k j) leaf_kept node_kept t

-- the equations of a pass stay true as long as the values of this pass and of the earlier ones are kept
pub equations_kept : (g : Grammar) (m : Passes) (k j : ℕ) (x : Item) (t : Tree) (v w : Valuation)
    → Each (IsLegalFor (HasPass m)) g.productions → k ≤ j → Fits g x t → Same (λ p. p ≤ j) g m t v w → Solves (OfPass m k) g t v
    → Solves (OfPass m k) g t w
equations_kept g m k j x t v w legal le fits s h = kept g m k j legal le t x v w fits s h

-- values that satisfy the equations of every pass are a solution, if each target has a pass
pub passes_solve : (g : Grammar) (m : Passes) (t : Tree) (v : Valuation)
    → Each (λ q. Each (λ r. (k : ℕ) × HasPass m q r.target k) q.rules) g.productions → ((k : ℕ) → Solves (OfPass m k) g t v)
    → Solves AnyRule g t v
passes_solve g m t v has solves =
    let texts : Solves NoRule g t v =
    solves_wider (OfPass m 0) NoRule g (λ p q r production rule bad. absurd bad) t v (solves 0) in
    solves_wider (OfPasses m AnyPass) AnyRule g
    (λ p q r production rule any. let pass = has p q production rule.0 r rule.1 in (pass.0, tt, pass.1)) t v
    (solves_each m AnyPass g t v texts (λ k any. solves k))
