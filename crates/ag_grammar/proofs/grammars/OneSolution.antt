-- Any two solutions on a tree are the same.
use Rattle.ag_grammar.proofs.Common
use Common.{ℕ, zero, suc, ◌≡◌, ◌-◌, ◌<◌, ◌≤◌, ◌⊎◌, inl, inr, List, [], ◌∷◌, ◌++◌, Option, Some, None, slice_get, length, map}
use Common.{refl, ap, ◌∙◌, sym, subst, arith, Value, Each, Item, Production, Rule, Target, Literal, Class, Grammar, stored_items}
use Common.{item_at, IsRule, Kind, Synthesized, Inherited, symbol_kinds, item_kinds, defined_kind, used_kind, Tree, Forest, leaf}
use Common.{node, Fits, FitsAll, IsTreeOf, Passes, item_passes, HasPass, Direction, LeftToRight, RightToLeft, direction_of}
use Common.{IsBefore, MayUse, IsLegalFor, IsLegal, Valuation, children, at, Holds, RulesHold, Solves, AnyRule, SameAt, Same}
use Common.{AnyPass, left_passes}
use Common.item
use Rattle.ag_grammar.specs.grammars.Accepted.{IsStart, IsComplete, IsNormal}
use Rattle.ag_grammar.proofs.grammars.EachNode.{same_weaker}
use Rattle.ag_grammar.proofs.grammars.Rules.{target_same}
use Rattle.ag_grammar.proofs.grammars.Children.{child, size, tree_ind, child_within, child_fits, child_exists, child_solves}
use Rattle.ag_grammar.proofs.grammars.Children.{child_each, children_each, root_each}

-- a rule of pass k with a target at place j may use values of pass k at the child at place i
abbrev Visited : ℕ → ℕ → ℕ → Type 0
Visited k zero i = Unit {0}
Visited k (suc j) i = IsBefore (direction_of k) i (suc j)

pub may_le : (k j i p : ℕ) → MayUse k j i p → p ≤ k
may_le k zero i p u = u
may_le k (suc j) i p u = elim u [ inl a ↦ a.1 | inr b ↦ elim b [ inl c ↦ c.1 | inr d ↦ omega arith ] ]

split : (p k : ℕ) → p ≤ k → (p < k) ⊎ (p ≡ k)
split p k h = grind arith

-- the values of an item's inherited attributes that belong to passes up to k are the same
abbrev InheritedSame : Grammar → Passes → ℕ → Option Item → (ℕ → Value) → (ℕ → Value) → Type 0
InheritedSame g m k x e f = (a p : ℕ) → slice_get (item_passes m x) a ≡ Some p → p ≤ k
    → slice_get (item_kinds g x) a ≡ Some Inherited → e a ≡ f a

-- the member at the same index of another list of the same length
pub counterpart : {A B : Type 0} (xs : List A) (ys : List B) (i : ℕ) (x : A) → length xs ≡ length ys → slice_get xs i ≡ Some x
    → (y : B) × (slice_get ys i ≡ Some y)
counterpart [] ys i x l e = cc
counterpart (z ∷ xs) [] i x l e = absurd (omega arith)
counterpart (z ∷ xs) (y ∷ ys) zero x l e = (y, refl)
counterpart (z ∷ xs) (y ∷ ys) (suc i) x l e = let h : length xs ≡ length ys = omega arith in counterpart xs ys i x h e

module _ (g : Grammar) (m : Passes) (k : ℕ) (q : Production) (v w : Valuation)
    (whole : (s : ℕ) → length (m s) ≡ length (symbol_kinds (slice_get g.symbols s))) (complete : IsComplete g q)
    (normal : IsNormal g q) (legal : IsLegalFor (HasPass m) q) (sv : (r : Rule) → IsRule q r → Holds r (at v))
    (sw : (r : Rule) → IsRule q r → Holds r (at w))
    (old : (j : ℕ) → SameAt (λ p. p < k) (item_passes m (item_at q j)) (at v j) (at w j))
    (given : InheritedSame g m k (Some (item.Symbol q.left)) (v []) (w [])) where
  argument : (j i a p : ℕ) → MayUse k j i p → slice_get (item_passes m (item_at q i)) a ≡ Some p
      → slice_get (item_kinds g (item_at q i)) a ≡ Some (used_kind i)
      → ((i : ℕ) → Visited k j (suc i)
      → SameAt (λ p. p ≤ k) (item_passes m (item_at q (suc i))) (at v (suc i)) (at w (suc i))) → at v i a ≡ at w i a
  argument j zero a p u h n vis = given a p h (may_le k j 0 p u) n
  argument zero (suc i) a p u h n vis = vis i tt a p h u
  argument (suc j) (suc i) a p u h n vis =
      elim u [
        | inl x ↦ absurd (let e = x.0 in omega arith)
        | inr y ↦ elim y
            [ inl x ↦ vis i x.0 a p h x.1 | inr x ↦ old (suc i) a p h x ]
      ]

  -- the values that a rule defines at a place are the same
  by_rule : (j a : ℕ) → slice_get (item_passes m (item_at q j)) a ≡ Some k
      → slice_get (item_kinds g (item_at q j)) a ≡ Some (defined_kind j)
      → ((i : ℕ) → Visited k j (suc i)
      → SameAt (λ p. p ≤ k) (item_passes m (item_at q (suc i))) (at v (suc i)) (at w (suc i))) → at v j a ≡ at w j a
  by_rule j a h n vis =
      let o : Target = record { place = j; attr = a } in
      let c = complete.all o n in
      let t : HasPass m q c.0.target k = subst (λ o. HasPass m q o k) (sym c.2) h in
      subst (λ o. at v o.place o.attr ≡ at w o.place o.attr) c.2
      (target_same c.0 (at v) (at w) (sv c.0 c.1) (sw c.0 c.1) (λ o' arg.
      let l = legal c.0 o' k c.1 arg t in
      argument j o'.place o'.attr l.0 (subst (λ o. MayUse k o.place o'.place l.0) c.2 l.2) l.1
      (normal c.1.0 c.0 c.1.1 arg.0 o' arg.1) vis))

  root_same : ((i : ℕ) → SameAt (λ p. p ≤ k) (item_passes m (item_at q (suc i))) (at v (suc i)) (at w (suc i)))
      → SameAt (λ p. p ≤ k) (m q.left) (v []) (w [])
  root_same all a p h le =
      elim (split p k le) [
        | inl lt ↦ old 0 a p h lt
        | inr e ↦
            (let c = counterpart (m q.left) (symbol_kinds (slice_get g.symbols q.left)) a p (whole q.left) h in
            by_kind c.0 c.1 e)
      ]
    where
      by_kind : (x : Kind) → slice_get (symbol_kinds (slice_get g.symbols q.left)) a ≡ Some x → p ≡ k → v [] a ≡ w [] a
      by_kind Inherited n e = given a p h le n
      by_kind Synthesized n e = by_rule 0 a (h ∙ ap Some e) n (λ i' _. all i')

  child_root : (i : ℕ)
      → ((i' : ℕ) → Visited k (suc i) (suc i')
      → SameAt (λ p. p ≤ k) (item_passes m (item_at q (suc i'))) (at v (suc i')) (at w (suc i')))
      → InheritedSame g m k (item_at q (suc i)) (at v (suc i)) (at w (suc i))
  child_root i vis a p h le n =
      elim (split p k le) [ inl lt ↦ old (suc i) a p h lt | inr e ↦ by_rule (suc i) a (h ∙ ap Some e) n vis ]

-- an upper bound of the number of children, of n in all, that a pass visits before the child with index i
abbrev rank : Direction → ℕ → ℕ → ℕ
rank LeftToRight n i = i
rank RightToLeft n i = n - i

ranked : (d : Direction) (n i j b : ℕ) → IsBefore d (suc j) (suc i) → j < n → rank d n i < suc b → rank d n j < b
ranked LeftToRight n i j b h l r = omega arith
ranked RightToLeft n i j b h l r = omega arith

-- two solutions on a tree have the same values in pass k, if they have the same values in the earlier passes, and in those
-- inherited attributes at the root that belong to passes up to k
abbrev Agrees : Grammar → Passes → ℕ → Tree → Type 0
Agrees g m k t = (x : Item) (v w : Valuation) → Fits g x t → Solves AnyRule g t v → Solves AnyRule g t w
    → Same (λ p. p < k) g m t v w → InheritedSame g m k (Some x) (v []) (w []) → Same (λ p. p ≤ k) g m t v w

rules_of : (W : Production → Rule → Type 0) (o : Option Production) (q : Production) (e : ℕ → ℕ → Value) → o ≡ Some q
    → RulesHold W o e → (r : Rule) → IsRule q r → W q r → Holds r e
rules_of W o q e s h = subst (λ o. RulesHold W o e) s h

module _ (g : Grammar) (m : Passes) (k : ℕ) (complete : Each (IsComplete g) g.productions)
    (normal : Each (IsNormal g) g.productions) (legal : IsLegal g m) where
  leaf_agrees : (c : ℕ) (x : List ℕ) → Agrees g m k (leaf c x)
  leaf_agrees c x i v w f sv sw s h zero p e le = sv ∙ sym sw
  leaf_agrees c x i v w f sv sw s h (suc a) p e le = cc

  module _ (p : ℕ) (ts : Forest) (ih : (i : ℕ) (t : Tree) → child ts i ≡ Some t → Agrees g m k t) (q : Production)
      (v w : Valuation) (eq : slice_get g.productions p ≡ Some q) (fits : FitsAll g (stored_items q.items) ts)
      (sv : Solves AnyRule g (node p ts) v) (sw : Solves AnyRule g (node p ts) w) (s : Same (λ p. p < k) g m (node p ts) v w)
      (given : InheritedSame g m k (Some (item.Symbol q.left)) (v []) (w [])) where
    rules_v : (r : Rule) → IsRule q r → Holds r (at v)
    rules_v r h = rules_of AnyRule (slice_get g.productions p) q (at v) eq sv.0 r h tt

    rules_w : (r : Rule) → IsRule q r → Holds r (at w)
    rules_w r h = rules_of AnyRule (slice_get g.productions p) q (at w) eq sw.0 r h tt

    -- what holds at the root of each child holds at its place
    at_place : (W : ℕ → Type 0) (i : ℕ) → ((t : Tree) → child ts i ≡ Some t → Same W g m t (children v i) (children w i))
        → SameAt W (item_passes m (item_at q (suc i))) (at v (suc i)) (at w (suc i))
    at_place W i h = go (slice_get (stored_items q.items) i) refl
      where
        go : (o : Option Item) → slice_get (stored_items q.items) i ≡ o → SameAt W (item_passes m o) (at v (suc i)) (at w (suc i))
        go None e = λ a b x y. cc
        go (Some x) e =
            let c = child_exists g (stored_items q.items) ts i x fits e in
            let f = child_fits g (stored_items q.items) ts i c.0 fits c.1 in
            let same : f.0 ≡ x = cc in
            root_each (SameAt W) g m x c.0 (children v i) (children w i) (subst (λ y. Fits g y c.0) same f.2) (h c.0 c.1)

    old : (j : ℕ) → SameAt (λ p. p < k) (item_passes m (item_at q j)) (at v j) (at w j)
    old zero = let e : left_passes m (slice_get g.productions p) ≡ m q.left = ap (left_passes m) eq in
        subst (λ ps. SameAt (λ p. p < k) ps (v []) (w [])) e s.0
    old (suc i) = at_place (λ p. p < k) i (λ t c. child_each (SameAt (λ p. p < k)) g m ts (children v) (children w) i t s.1 c)

    children_agree : (n i : ℕ) (t : Tree) → child ts i ≡ Some t → rank (direction_of k) (size ts) i < n
        → Same (λ p. p ≤ k) g m t (children v i) (children w i)
    children_agree zero i t c h = absurd (omega arith)
    children_agree (suc n) i t c h =
        let f = child_fits g (stored_items q.items) ts i t fits c in
        ih i t c f.0 (children v i) (children w i) f.2 (child_solves AnyRule g ts (children v) i t sv.1 c)
        (child_solves AnyRule g ts (children w) i t sw.1 c)
        (child_each (SameAt (λ p. p < k)) g m ts (children v) (children w) i t s.1 c)
        (subst (λ o. InheritedSame g m k o (at v (suc i)) (at w (suc i))) f.1
        (child_root g m k q v w legal.whole (complete p q eq) (normal p q eq)
        (legal.allowed p q eq) rules_v rules_w old given i (λ j before. at_place (λ p. p ≤ k) j (λ u d.
        children_agree n j u d (ranked (direction_of k) (size ts) i j n before (child_within ts j u d) h)))))

    all_agree : (i : ℕ) (t : Tree) → child ts i ≡ Some t → Same (λ p. p ≤ k) g m t (children v i) (children w i)
    all_agree i t c = children_agree (suc (rank (direction_of k) (size ts) i)) i t c (omega arith)

    node_agrees_at : Same (λ p. p ≤ k) g m (node p ts) v w
    node_agrees_at =
        let e : left_passes m (slice_get g.productions p) ≡ m q.left = ap (left_passes m) eq in (
          subst (λ ps. SameAt (λ p. p ≤ k) ps (v []) (w [])) (sym e)
              (root_same g m k q v w legal.whole (complete p q eq) (normal p q eq)
              (legal.allowed p q eq) rules_v rules_w old given (λ i. at_place (λ p. p ≤ k) i (λ t c. all_agree i t c))),
          children_each (SameAt (λ p. p ≤ k)) g m ts (children v) (children w) all_agree,
        )

  node_agrees : (p : ℕ) (ts : Forest) → ((i : ℕ) (t : Tree) → child ts i ≡ Some t → Agrees g m k t) → Agrees g m k (node p ts)
  node_agrees p ts ih (item.Terminal (Class c)) v w f sv sw s h = elim f [ ]
  node_agrees p ts ih (item.Terminal (Literal l)) v w f sv sw s h = elim f [ ]
  node_agrees p ts ih (item.Symbol x) v w f sv sw s h =
      node_agrees_at p ts ih f.0 v w f.1 f.3 sv sw s
      (subst (λ z. InheritedSame g m k (Some (item.Symbol z)) (v []) (w [])) (sym f.2) h)

  -- the values of one more pass
  pub pass_agrees : (t : Tree) → Agrees g m k t
  pass_agrees t = tree_ind (Agrees g m k) leaf_agrees node_agrees t

-- values that are the same in each pass are the same
same_each : (g : Grammar) (m : Passes) (t : Tree) (v w : Valuation) → ((k : ℕ) → Same (λ p. p < k) g m t v w)
    → Same AnyPass g m t v w
same_each g m t =
    tree_ind (λ t. (v w : Valuation) → ((k : ℕ) → Same (λ p. p < k) g m t v w) → Same AnyPass g m t v w)
    (λ c x v w s a p e y. s (suc p) a p e (omega arith))
    (λ p ts ih v w s. (
      λ a p e y. (s (suc p)).0 a p e (omega arith),
      children_each (SameAt AnyPass) g m ts (children v) (children w)
          (λ i t c. ih i t c (children v i) (children w i)
          (λ k. child_each (SameAt (λ p. p < k)) g m ts (children v) (children w) i t (s k).1 c)),
    )) t

same_none : (g : Grammar) (m : Passes) (t : Tree) (v w : Valuation) → Same (λ p. p < 0) g m t v w
same_none g m t =
    tree_ind (λ t. (v w : Valuation) → Same (λ p. p < 0) g m t v w) (λ c x v w a p e y. absurd (omega arith))
    (λ p ts ih v w. (
      λ a p e y. absurd (omega arith),
      children_each (SameAt (λ p. p < 0)) g m ts (children v) (children w)
          (λ i t c. ih i t c (children v i) (children w i)),
    )) t

none_inherited : (names : List (List ℕ)) (a : ℕ) → slice_get (map (λ n. Synthesized) names ++ []) a ≡ Some Inherited → ⊥
none_inherited [] a e = cc
none_inherited (n ∷ names) zero e = cc
none_inherited (n ∷ names) (suc a) e = none_inherited names a e

-- the start symbol has no inherited attribute
start_plain : (g : Grammar) (a : ℕ) → IsStart g → slice_get (symbol_kinds (slice_get g.symbols g.start)) a ≡ Some Inherited → ⊥
start_plain g a start e =
    let h : slice_get (map (λ n. Synthesized) start.symbol.syn ++ map (λ n. Inherited) start.symbol.inh) a ≡ Some Inherited =
    subst (λ o. slice_get (symbol_kinds o) a ≡ Some Inherited) start.declared e in
    none_inherited start.symbol.syn a
    (subst (λ names. slice_get (map (λ n. Synthesized) start.symbol.syn ++ map (λ n. Inherited) names) a ≡ Some Inherited)
    start.plain h)

module _ (g : Grammar) (m : Passes) (t : Tree) (v w : Valuation) (start : IsStart g)
    (complete : Each (IsComplete g) g.productions) (normal : Each (IsNormal g) g.productions) (legal : IsLegal g m)
    (fits : IsTreeOf g t) (sv : Solves AnyRule g t v) (sw : Solves AnyRule g t w) where
  below_pass : (k : ℕ) → Same (λ p. p < k) g m t v w
  below_pass zero = same_none g m t v w
  below_pass (suc k) =
      same_weaker (λ p. p ≤ k) (λ p. p < suc k) g m (λ p h. omega arith) t v w
      (pass_agrees g m k complete normal legal t (item.Symbol g.start) v w fits sv sw (below_pass k)
      (λ a p e le y. absurd (start_plain g a start y)))

  pub one_solution : Same AnyPass g m t v w
  one_solution = same_each g m t v w below_pass
