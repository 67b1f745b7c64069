-- Induction over the attribute instances of a tree: what every rule passes on from its arguments to its target holds of all
-- instances.
-- The induction goes pass by pass, and in a pass child by child, as does the proof that there is one solution.
use Rattle.origins.proofs.Common
use Common.{ℕ, zero, suc, ◌≡◌, ◌+◌, ◌-◌, ◌<◌, ◌≤◌, ◌⊎◌, inl, inr, List, [], ◌∷◌, ◌++◌, map, Option, Some, None, slice_get, length}
use Common.{refl, sym, subst, add-zero, zero-add, arith, Each, Item, Production, Rule, Target, Literal, Class, Grammar}
use Common.{stored_items, item_at, IsArgument, IsRule, Kind, Synthesized, Inherited, symbol_kinds, item_kinds, defined_kind}
use Common.{used_kind, IsAccepted, IsStart, IsComplete, IsNormal, Tree, Forest, leaf, node, none, more, Fits, FitsAll, IsTreeOf}
use Common.{Direction, LeftToRight, RightToLeft, Passes, direction_of, IsLegal, left_passes}
use Common.item
use Rattle.ag_grammar.specs.grammars.Passes.{item_passes, HasPass, IsBefore, MayUse, IsLegalFor}
use Rattle.ag_grammar.proofs.grammars.Children.{child, size, tree_ind, child_within, child_fits, child_exists}
use Rattle.ag_grammar.proofs.grammars.OneSolution.{counterpart, may_le}
use Rattle.origins.specs.Causes.{HoldsAt, HoldsIn, place_path}

-- the places whose values a rule with a target at j may use in its own pass
abbrev Visited : ℕ → ℕ → ℕ → Type 0
Visited k zero i = Unit {0}
Visited k (suc j) i = IsBefore (direction_of k) i (suc j)

split : (p k : ℕ) → p ≤ k → (p < k) ⊎ (p ≡ k)
split p k h = grind arith

-- at least the number of children that a pass visits before child i of n
abbrev rank : Direction → ℕ → ℕ → ℕ
rank LeftToRight n i = i
rank RightToLeft n i = n - i

ranked : (d : Direction) (n i j b : ℕ) → IsBefore d (suc j) (suc i) → j < n → rank d n i < suc b → rank d n j < b
ranked LeftToRight n i j b h l r = omega arith
ranked RightToLeft n i j b h l r = omega arith

none_inherited : (names : List (List ℕ)) (a : ℕ) → slice_get (map (λ n. Synthesized) names ++ []) a ≡ Some Inherited → ⊥
none_inherited [] a e = cc
none_inherited (n ∷ names) zero e = cc
none_inherited (n ∷ names) (suc a) e = none_inherited names a e

-- the start symbol has no inherited attribute
start_plain : (g : Grammar) (a : ℕ) → IsStart g → slice_get (symbol_kinds (slice_get g.symbols g.start)) a ≡ Some Inherited → ⊥
start_plain g a start e = none_inherited start.symbol.syn a (rw (start.declared, start.plain) at e)

-- If P holds of each tree of a list, with its number from n on, it holds of tree i of the list.
child_has : (P : Tree → ℕ → Type 0) (OfAll : Forest → ℕ → Type 0)
    → ((s : Tree) (ts : Forest) (n : ℕ) → OfAll (more s ts) n → P s n × OfAll ts (suc n)) → (ts : Forest) (n i : ℕ) (t : Tree)
    → OfAll ts n → child ts i ≡ Some t → P t (n + i)
child_has P OfAll parts none n i t h e = cc
child_has P OfAll parts (more s ts) n zero t h e = let same : t ≡ s = cc in rw (same, add-zero) (parts s ts n h).0
child_has P OfAll parts (more s ts) n (suc i) t h e =
    let number : n + suc i ≡ suc n + i = omega arith in
    rw number (child_has P OfAll parts ts (suc n) i t (parts s ts n h).1 e)

-- what holds at each node of the trees of a list holds at each node of tree i of the list, and conversely
module _ (R : List ℕ → List ℕ → Type 0) (g : Grammar) (m : Passes) where
  one_holds : (ts : Forest) (path : List ℕ) (i : ℕ) (t : Tree) → HoldsIn R g m ts path 0 → child ts i ≡ Some t
      → HoldsAt R g m t (path ++ i ∷ [])
  one_holds ts path i t h e =
      rw zero-add at
      (child_has (λ s n. HoldsAt R g m s (path ++ n ∷ [])) (λ us. HoldsIn R g m us path) (λ s us n all. all) ts 0 i t h e)

  children_hold : (ts : Forest) (path : List ℕ) (n : ℕ)
      → ((i : ℕ) (t : Tree) → child ts i ≡ Some t → HoldsAt R g m t (path ++ (n + i) ∷ [])) → HoldsIn R g m ts path n
  children_hold none path n h = tt
  children_hold (more s ts) path n h = (
    rw add-zero at (h 0 s refl),
    children_hold ts path (suc n)
        (λ i t e. let number : n + suc i ≡ suc n + i = omega arith in rw number at (h (suc i) t e)),
  )

  all_hold : (ts : Forest) (path : List ℕ) → ((i : ℕ) (t : Tree) → child ts i ≡ Some t → HoldsAt R g m t (path ++ i ∷ []))
      → HoldsIn R g m ts path 0
  all_hold ts path h = children_hold ts path 0 (λ i t e. rw zero-add (h i t e))

  root_holds : (x : Item) (t : Tree) (path : List ℕ) → Fits g x t → HoldsAt R g m t path → R path (item_passes m (Some x))
  root_holds (item.Terminal (Class c)) (leaf d x) path f h = h
  root_holds (item.Terminal (Literal l)) (leaf d x) path f h = absurd f
  root_holds (item.Symbol s) (leaf d x) path f h = absurd f
  root_holds (item.Terminal a) (node p ts) path f h = absurd f
  root_holds (item.Symbol s) (node p ts) path f h =
      let e : left_passes m (slice_get g.productions p) ≡ m s = cc in rw e at h.0

-- S holds at each node where R k does for each k, if these together imply it
module _ {K : Type 0} (R : K → List ℕ → List ℕ → Type 0) (S : List ℕ → List ℕ → Type 0) (g : Grammar) (m : Passes)
    (implied : (path ps : List ℕ) → ((k : K) → R k path ps) → S path ps) where
  mutual
    pub holds_by : (t : Tree) (path : List ℕ) → ((k : K) → HoldsAt (R k) g m t path) → HoldsAt S g m t path
    holds_by (leaf c x) path h = implied path (0 ∷ []) h
    holds_by (node p ts) path h =
        (implied path (left_passes m (slice_get g.productions p)) (λ k. (h k).0), holds_by_in ts path 0 (λ k. (h k).1))

    holds_by_in : (ts : Forest) (path : List ℕ) (n : ℕ) → ((k : K) → HoldsIn (R k) g m ts path n) → HoldsIn S g m ts path n
    holds_by_in none path n h = tt
    holds_by_in (more t ts) path n h =
        (holds_by t (path ++ n ∷ []) (λ k. (h k).0), holds_by_in ts path (suc n) (λ k. (h k).1))

-- Ok holds of each attribute at the path whose pass satisfies W; ps has the passes of the attributes there
abbrev pub Of : (List ℕ → ℕ → Type 0) → (ℕ → Type 0) → List ℕ → List ℕ → Type 0
Of Ok W path ps = (a p : ℕ) → slice_get ps a ≡ Some p → W p → Ok path a

-- Each rule of a tree passes a property (Ok) of attribute instances on from its arguments to its target, and each text has it.
abbrev mutual
  pub Closed : (List ℕ → ℕ → Type 0) → Grammar → Tree → List ℕ → Type 0
  Closed Ok g (leaf c x) path = Ok path 0
  Closed Ok g (node p ts) path =
      ((q : Production) (r : Rule) → slice_get g.productions p ≡ Some q → IsRule q r
      → ((o : Target) → IsArgument r o → Ok (place_path path o.place) o.attr)
      → Ok (place_path path r.target.place) r.target.attr) × ClosedIn Ok g ts path 0

  pub ClosedIn : (List ℕ → ℕ → Type 0) → Grammar → Forest → List ℕ → ℕ → Type 0
  ClosedIn Ok g none path n = Unit {0}
  ClosedIn Ok g (more t ts) path n = Closed Ok g t (path ++ n ∷ []) × ClosedIn Ok g ts path (suc n)

one_closed : (Ok : List ℕ → ℕ → Type 0) (g : Grammar) (ts : Forest) (path : List ℕ) (i : ℕ) (t : Tree) → ClosedIn Ok g ts path 0
    → child ts i ≡ Some t → Closed Ok g t (path ++ i ∷ [])
one_closed Ok g ts path i t h e =
    rw zero-add at
    (child_has (λ s n. Closed Ok g s (path ++ n ∷ [])) (λ us. ClosedIn Ok g us path) (λ s us n all. all) ts 0 i t h e)

module _ (Ok : List ℕ → ℕ → Type 0) (g : Grammar) (m : Passes) (k : ℕ) where
  -- Ok holds of the attributes whose pass is before pass k; `UpTo`: of those whose pass is at most k
  abbrev Earlier : List ℕ → List ℕ → Type 0
  Earlier = Of Ok (λ p. p < k)

  abbrev UpTo : List ℕ → List ℕ → Type 0
  UpTo = Of Ok (λ p. p ≤ k)

  -- Ok holds of those inherited attributes of the item x whose pass is at most k
  abbrev InheritedOk : Option Item → List ℕ → Type 0
  InheritedOk x path = (a p : ℕ) → slice_get (item_passes m x) a ≡ Some p → p ≤ k
      → slice_get (item_kinds g x) a ≡ Some Inherited → Ok path a

  -- `UpTo` at those children of a node whose values a rule with a target at place j may use
  abbrev VisitedUpTo : Production → List ℕ → ℕ → Type 0
  VisitedUpTo q path j = (i : ℕ) → Visited k j (suc i) → UpTo (place_path path (suc i)) (item_passes m (item_at q (suc i)))

  module _ (q : Production) (path : List ℕ) (whole : (s : ℕ) → length (m s) ≡ length (symbol_kinds (slice_get g.symbols s)))
      (complete : IsComplete g q) (normal : IsNormal g q) (legal : IsLegalFor (HasPass m) q)
      (closed : (r : Rule) → IsRule q r → ((o : Target) → IsArgument r o → Ok (place_path path o.place) o.attr)
      → Ok (place_path path r.target.place) r.target.attr)
      (old : (j : ℕ) → Earlier (place_path path j) (item_passes m (item_at q j)))
      (given : InheritedOk (Some (item.Symbol q.left)) path) where
    argument : (j i a p : ℕ) → MayUse k j i p → slice_get (item_passes m (item_at q i)) a ≡ Some p
        → slice_get (item_kinds g (item_at q i)) a ≡ Some (used_kind i) → VisitedUpTo q path j → Ok (place_path path i) a
    argument j zero a p u h n vis = given a p h (may_le k j 0 p u) n
    argument zero (suc i) a p u h n vis = vis i tt a p h u
    argument (suc j) (suc i) a p u h n vis = elim u [
      | inl x ↦ absurd (let e = x.0 in omega arith)
      | inr y ↦ elim y [ inl x ↦ vis i x.0 a p h x.1 | inr x ↦ old (suc i) a p h x ]
    ]

    by_rule : (j a : ℕ) → slice_get (item_passes m (item_at q j)) a ≡ Some k
        → slice_get (item_kinds g (item_at q j)) a ≡ Some (defined_kind j) → VisitedUpTo q path j → Ok (place_path path j) a
    by_rule j a h n vis =
        let o : Target = record { place = j; attr = a } in
        let c = complete.all o n in
        let t : HasPass m q c.0.target k = subst (λ o. HasPass m q o k) (sym c.2) h in
        subst (λ (o : Target). Ok (place_path path o.place) o.attr) c.2 (closed c.0 c.1 (λ o' arg.
        let l = legal c.0 o' k c.1 arg t in
        argument j o'.place o'.attr l.0 (subst (λ o. MayUse k o.place o'.place l.0) c.2 l.2) l.1
        (normal c.1.0 c.0 c.1.1 arg.0 o' arg.1) vis))

    root_ok : VisitedUpTo q path 0 → UpTo path (m q.left)
    root_ok vis a p h le = elim (split p k le) [
      | inl lt ↦ old 0 a p h lt
      | inr e ↦
          (let c = counterpart (m q.left) (symbol_kinds (slice_get g.symbols q.left)) a p (whole q.left) h in
          by_kind c.0 c.1 e)
    ]
      where
        by_kind : (x : Kind) → slice_get (symbol_kinds (slice_get g.symbols q.left)) a ≡ Some x → p ≡ k → Ok path a
        by_kind Inherited n e = given a p h le n
        by_kind Synthesized n e = by_rule 0 a (cc) n vis

    child_root : (i : ℕ) → VisitedUpTo q path (suc i) → InheritedOk (item_at q (suc i)) (place_path path (suc i))
    child_root i vis a p h le n =
        elim (split p k le) [ inl lt ↦ old (suc i) a p h lt | inr e ↦ by_rule (suc i) a (cc) n vis ]

  abbrev Stays : Tree → Type 0
  Stays t = (x : Item) (path : List ℕ) → Fits g x t → Closed Ok g t path → HoldsAt Earlier g m t path
      → InheritedOk (Some x) path → HoldsAt UpTo g m t path

  module _ (complete : Each (IsComplete g) g.productions) (normal : Each (IsNormal g) g.productions) (legal : IsLegal g m) where
    leaf_stays : (c : ℕ) (x : List ℕ) → Stays (leaf c x)
    leaf_stays c x i path f closed s h zero p e le = closed
    leaf_stays c x i path f closed s h (suc a) p e le = cc

    module _ (p : ℕ) (ts : Forest) (ih : (i : ℕ) (t : Tree) → child ts i ≡ Some t → Stays t) (q : Production)
        (path : List ℕ) (eq : slice_get g.productions p ≡ Some q) (fits : FitsAll g (stored_items q.items) ts)
        (closed : Closed Ok g (node p ts) path) (s : HoldsAt Earlier g m (node p ts) path)
        (given : InheritedOk (Some (item.Symbol q.left)) path) where
      at_place : (W : ℕ → Type 0) (i : ℕ) → ((t : Tree) → child ts i ≡ Some t → HoldsAt (Of Ok W) g m t (path ++ i ∷ []))
          → Of Ok W (place_path path (suc i)) (item_passes m (item_at q (suc i)))
      at_place W i h = go (slice_get (stored_items q.items) i) refl
        where
          go : (o : Option Item) → slice_get (stored_items q.items) i ≡ o → Of Ok W (path ++ i ∷ []) (item_passes m o)
          go None e = λ a b x y. cc
          go (Some x) e =
              let c = child_exists g (stored_items q.items) ts i x fits e in
              let f = child_fits g (stored_items q.items) ts i c.0 fits c.1 in
              let same : f.0 ≡ x = cc in
              root_holds (Of Ok W) g m x c.0 (path ++ i ∷ []) (rw same at f.2) (h c.0 c.1)

      left_is : left_passes m (slice_get g.productions p) ≡ m q.left
      left_is = cc

      old : (j : ℕ) → Earlier (place_path path j) (item_passes m (item_at q j))
      old zero = rw left_is at s.0
      old (suc i) = at_place (λ p. p < k) i (λ t c. one_holds Earlier g m ts path i t s.1 c)

      children_ok : (n i : ℕ) (t : Tree) → child ts i ≡ Some t → rank (direction_of k) (size ts) i < n
          → HoldsAt UpTo g m t (path ++ i ∷ [])
      children_ok zero i t c h = absurd (omega arith)
      children_ok (suc b) i t c h =
          let f = child_fits g (stored_items q.items) ts i t fits c in
          ih i t c f.0 (path ++ i ∷ []) f.2 (one_closed Ok g ts path i t closed.1 c) (one_holds Earlier g m ts path i t s.1 c)
          (subst (λ o. InheritedOk o (path ++ i ∷ [])) f.1
          (child_root q path legal.whole (complete p q eq) (normal p q eq)
          (legal.allowed p q eq) (λ r. closed.0 q r eq) old given i (λ j before. at_place (λ p. p ≤ k) j (λ u d.
          children_ok b j u d (ranked (direction_of k) (size ts) i j b before (child_within ts j u d) h)))))

      all_ok : (i : ℕ) (t : Tree) → child ts i ≡ Some t → HoldsAt UpTo g m t (path ++ i ∷ [])
      all_ok i t c = children_ok (suc (rank (direction_of k) (size ts) i)) i t c (omega arith)

      node_ok : HoldsAt UpTo g m (node p ts) path
      node_ok = (
        rw left_is
            (root_ok q path legal.whole (complete p q eq) (normal p q eq) (legal.allowed p q eq) (λ r. closed.0 q r eq) old given
            (λ i _. at_place (λ p. p ≤ k) i (λ t c. all_ok i t c))),
        all_hold UpTo g m ts path all_ok,
      )

    node_stays : (p : ℕ) (ts : Forest) → ((i : ℕ) (t : Tree) → child ts i ≡ Some t → Stays t) → Stays (node p ts)
    node_stays p ts ih (item.Terminal a) path f closed s h = absurd f
    node_stays p ts ih (item.Symbol x) path f closed s h = node_ok p ts ih f.0 path f.1 f.3 closed s (rw (← f.2) at h)

    pass_ok : (t : Tree) → Stays t
    pass_ok t = tree_ind Stays leaf_stays node_stays t

module _ (Ok : List ℕ → ℕ → Type 0) (g : Grammar) (m : Passes) (t : Tree) (accepted : IsAccepted g) (legal : IsLegal g m)
    (fits : IsTreeOf g t) (closed : Closed Ok g t []) where
  ok_below : (k : ℕ) → HoldsAt (Of Ok (λ p. p < k)) g m t []
  ok_below zero =
      holds_by {K = ⊥} (λ _ path ps. ⊥) (Of Ok (λ p. p < 0)) g m (λ path ps h a p e less. absurd (omega arith)) t []
      (λ none. absurd none)
  ok_below (suc k) =
      holds_by {K = Unit {0}} (λ _. Of Ok (λ p. p ≤ k)) (Of Ok (λ p. p < suc k)) g m
      (λ path ps h a p e less. h tt a p e (omega arith)) t []
      (λ _. pass_ok Ok g m k accepted.complete accepted.normal legal t (item.Symbol g.start) [] fits closed (ok_below k)
      (λ a p e le y. absurd (start_plain g a accepted.start y)))

  -- a property that every rule passes on from its arguments to its target holds of all attributes of a tree
  pub attribute_induction : HoldsAt (λ path ps. (a p : ℕ) → slice_get ps a ≡ Some p → Ok path a) g m t []
  attribute_induction =
      holds_by (λ k. Of Ok (λ p. p < k)) (λ path ps. (a p : ℕ) → slice_get ps a ≡ Some p → Ok path a) g m
      (λ path ps h a p e. h (suc p) a p e (omega arith)) t [] ok_below
