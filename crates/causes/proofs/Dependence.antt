-- The attribute instances on which an instance of a tree depends: there is no cycle among them.
use Rattle.causes.proofs.Common
use Common.{ℕ, zero, suc, ◌≡◌, ◌+◌, ◌*◌, ◌<◌, inl, inr, List, [], ◌∷◌, ◌++◌, Some, slice_get, refl, sym, add-zero, zero-add}
use Common.{arith, Has, Production, Rule, Target, IsAccepted, Grammar, HasKind, IsArgument, IsRule, Kind, defined_kind, item_at}
use Common.{item_kinds, symbol_kinds, IsLegal, Passes, Forest, IsTreeOf, Tree, leaf, more, node, node_count, none, place_path}
use Common.{tree_at, child, HasRule, IsNodeAt}
use Rattle.ag_grammar.proofs.grammars.Children as children
use Rattle.ag_grammar.proofs.grammars.OneSolution.{counterpart}
use Rattle.passassign.proofs.slots.Linked.{attribute_within, same_parts}
use Rattle.origins.specs.Causes.{HoldsAt, HoldsIn}
use Rattle.origins.proofs.Induction.{Closed, ClosedIn, attribute_induction}
use Rattle.causes.proofs.Instances.{Instance, IsInstance, instance_among, instance_at, instance_count, instances}
use Rattle.causes.proofs.Instances.{one_kind}
use Rattle.causes.proofs.Paths.{at_path, last_same, tree_further}
use Rattle.causes.proofs.Relations.{Ends, Reaches, ends, is_short}

-- An instance depends on another: the rule for it has the other as an argument.
pub record DependsOn (g : Grammar) (t : Tree) (x y : Instance) : Type 0 where
  pub path : List ℕ
  pub of : Production
  pub here : IsNodeAt g t path of
  pub rule : Rule
  pub is : IsRule of rule
  pub argument : Target
  pub taken : IsArgument rule argument
  pub from : place_path path rule.target.place ≡ x.0
  pub from_attr : rule.target.attr ≡ x.1
  pub to : place_path path argument.place ≡ y.0
  pub to_attr : argument.attr ≡ y.1

-- what holds at each node of the children of a node holds at those of each child
child_holds : (R : List ℕ → List ℕ → Type 0) (g : Grammar) (m : Passes) (ts : Forest) (path : List ℕ) (n i : ℕ) (s : Tree)
    → HoldsIn R g m ts path n → children.child ts i ≡ Some s → HoldsAt R g m s (path ++ (n + i) ∷ [])
child_holds R g m none path n i s h e = cc
child_holds R g m (more t ts) path n zero s h e = let same : s ≡ t = cc in rw (same, add-zero) h.0
child_holds R g m (more t ts) path n (suc i) s h e =
    let number : n + suc i ≡ suc n + i = omega arith in rw number (child_holds R g m ts path (suc n) i s h.1 e)

module _ (g : Grammar) (t : Tree) (accepted : IsAccepted g) (fits : IsTreeOf g t) where
  -- the kind of a rule's target
  target_kind : {path : List ℕ} {q : Production} → IsNodeAt g t path q → (r : Rule) → IsRule q r
      → HasKind g q r.target (defined_kind r.target.place)
  target_kind {q = q} n r is = (accepted.complete n.number q n.is).no_other is.0 r is.1

  -- Targets that stand for the same instance are at the same node.
  one_place : {path other : List ℕ} {q r : Production} → IsNodeAt g t path q → IsNodeAt g t other r → (j i a b : ℕ)
      → slice_get (item_kinds g (item_at q j)) a ≡ Some (defined_kind j)
      → slice_get (item_kinds g (item_at r i)) b ≡ Some (defined_kind i) → place_path path j ≡ place_path other i → a ≡ b
      → (path ≡ other) × (j ≡ i)
  one_place {path} {other} n m j i a b is others same attr =
      by_kind j i (one_kind (instance_at fits n j a is) (instance_at fits m i b others) same attr) same
    where
      by_kind : (j i : ℕ) → defined_kind j ≡ defined_kind i → place_path path j ≡ place_path other i → (path ≡ other) × (j ≡ i)
      by_kind zero zero kinds same = (same, refl)
      by_kind (suc j) (suc i) kinds same = let both = last_same path other j i same in (both.0, cc both.1)
      by_kind zero (suc i) kinds same = cc
      by_kind (suc j) zero kinds same = cc

  -- an instance has one rule
  one_rule : {path other : List ℕ} {q p : Production} → IsNodeAt g t path q → IsNodeAt g t other p → (r s : Rule)
      → IsRule q r → IsRule p s → place_path path r.target.place ≡ place_path other s.target.place
      → r.target.attr ≡ s.target.attr → (path ≡ other) × (r ≡ s)
  one_rule {q = q} {p} n m r s is others same attr =
      let place =
      one_place n m r.target.place s.target.place r.target.attr s.target.attr (target_kind n r is) (target_kind m s others) same
      attr in
      let of : p ≡ q = cc (m.there, n.there, place.0) in
      let there : slice_get q.rules others.0 ≡ Some s = rw of at others.1 in
      let number =
      (accepted.complete n.number q n.is).single is.0 others.0 r s is.1 there (same_parts r.target s.target place.1 attr) in
      (place.0, cc (is.1, number))

  abbrev HasEnd : List ℕ → ℕ → Type 0
  HasEnd path a = Ends (DependsOn g t) (path, a)

  rule_ends : {path : List ℕ} {q : Production} → IsNodeAt g t path q → (r : Rule) → IsRule q r
      → ((o : Target) → IsArgument r o → HasEnd (place_path path o.place) o.attr)
      → HasEnd (place_path path r.target.place) r.target.attr
  rule_ends {path} n r is args = ends (place_path path r.target.place, r.target.attr) (λ y step.
      let one = one_rule n step.here r step.rule is step.is (sym step.from) (sym step.from_attr) in
      rw (one.0, step.to, step.to_attr) at (args step.argument (rw one.1 step.taken)))

  -- the text of a token depends on nothing
  token_ends : (path : List ℕ) {c : ℕ} {x : List ℕ} → tree_at (Some t) path ≡ Some (leaf c x) → HasEnd path 0
  token_ends path {c} {x} there = ends (path, 0) (λ y step.
      absurd (by_place step.here step.rule.target.place step.rule.target.attr (target_kind step.here step.rule step.is)
      step.from))
    where
      by_place : {other : List ℕ} {q : Production} → IsNodeAt g t other q → (j a : ℕ)
          → slice_get (item_kinds g (item_at q j)) a ≡ Some (defined_kind j) → place_path other j ≡ path → ⊥
      by_place n zero a is same = cc
      by_place n (suc j) a is same = elim (instance_at fits n (suc j) a is) [ inl (q, of_node, is) ↦ cc | inr token ↦ cc ]

  mutual
    closed : (s : Tree) (path : List ℕ) → tree_at (Some t) path ≡ Some s → Closed HasEnd g s path
    closed (leaf c x) path there = token_ends path there
    closed (node p ts) path there = (
      λ q r eq is args. rule_ends (record { number = p; trees = ts; there = there; is = eq }) r is args,
      closed_in ts path 0 (λ i. rw (zero-add, tree_further (Some t) path i, there)),
    )

    closed_in : (ts : Forest) (path : List ℕ) (n : ℕ)
        → ((i : ℕ) → tree_at (Some t) (path ++ (n + i) ∷ []) ≡ child ts i) → ClosedIn HasEnd g ts path n
    closed_in none path n is = tt
    closed_in (more s ts) path n is = (
      closed s (path ++ n ∷ []) (rw add-zero at (is 0)),
      closed_in ts path (suc n) (λ i. let next : suc n + i ≡ n + suc i = omega arith in rw next (is (suc i))),
    )

  -- each chain of dependencies from an instance has an end
  instance_ends : (m : Passes) → IsLegal g m → (path : List ℕ) (a : ℕ) {k : Kind} → IsInstance g t path a k → HasEnd path a
  instance_ends m legal path a (inr token) = rw token.lex (token_ends path token.there)
  instance_ends m legal path a {k} (inl (q, n, is)) =
      let R : List ℕ → List ℕ → Type 0 = λ path ps. (a p : ℕ) → slice_get ps a ≡ Some p → HasEnd path a in
      let all : HoldsAt R g m t [] = attribute_induction HasEnd g m t accepted legal fits (closed t [] refl) in
      let here = at_path (λ p s. HoldsAt R g m s p) (λ p number ts i s h is.
      rw zero-add at (child_holds R g m ts p 0 i s h.1 is)) path t all n.there in
      let pass = counterpart (symbol_kinds (slice_get g.symbols q.left)) (m q.left) a k (sym (legal.whole q.left)) is in
      here.0 a pass.0 (rw n.is pass.1)

  has_instance : (path : List ℕ) (a : ℕ) {k : Kind} → IsInstance g t path a k → Has (instances t []) (path, a)
  has_instance path a (inr token) = instance_among t path a token.there (omega arith)
  has_instance path a {k} (inl (q, n, is)) =
      instance_among t path a n.there (attribute_within g q.left a accepted (k, is)).0

  -- what an instance of the tree depends on is an instance of the tree
  reached : (n : ℕ) (x y : Instance) → Has (instances t []) x → Reaches (DependsOn g t) n x y → Has (instances t []) y
  reached zero x y has same = rw (← same) has
  reached (suc n) x y has (z, step, others) =
      let normal = accepted.normal step.here.number step.of step.here.is step.is.0 step.rule step.is.1 in
      let instance = instance_at fits step.here step.argument.place step.argument.attr
      (normal step.taken.0 step.argument step.taken.1) in
      reached n z y (rw (step.to, step.to_attr) at (has_instance (place_path step.path step.argument.place) step.argument.attr
      instance)) others

  -- A chain of dependencies has fewer steps than 16 for each node of the tree.
  pub dependencies_short : (m : Passes) → IsLegal g m → (path : List ℕ) (target : Target) → HasRule g t path target
      → (n : ℕ) (y : Instance) → Reaches (DependsOn g t) n (place_path path target.place, target.attr) y → n < 16 * node_count t
  dependencies_short m legal path target has n y chain =
      let here = place_path path target.place in
      let instance =
      instance_at fits has.here target.place target.attr (rw has.gives at (target_kind has.here has.rule has.is)) in
      let there = has_instance here target.attr instance in
      let less = is_short (DependsOn g t) n y (instance_ends m legal here target.attr instance) (instances t [])
      (λ k z reaches. reached k (here, target.attr) z there reaches) chain in
      omega (arith, instance_count t [])
