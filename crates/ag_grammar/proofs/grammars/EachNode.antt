-- What holds at each node of a tree: values are the same, values are well, leaves have their texts, and the
-- rules that satisfy a predicate hold.
use Rattle.ag_grammar.proofs.Common
use Common.{◌≡◌, ℕ, ◌≤◌, List, [], ◌∷◌, Option, Some, None, slice_get, refl, sym, subst, ◌∙◌, arith, Value, Production, Rule}
use Common.{Grammar, IsProduction, IsRule, Passes, HasPass, AtEachNode, AtEachNodeOf, IsWellOn, NoRule, OfPass, RulesHold, Same}
use Common.{SameAt, Solves, SolvesAll, Valuation, WellAt, at, children, left_passes, rest, Tree, Forest, leaf, node, none, more}
use Rattle.ag_value.specs.Well.{IsWell}

-- If R relates the first and the second valuation at each node, S the second and the third, and both imply T
-- at a node, then T relates the first and the third at each node.
module _ (R S T : List ℕ → (ℕ → Value) → (ℕ → Value) → Type 0) (g : Grammar) (m : Passes)
    (h : (ps : List ℕ) (d e f : ℕ → Value) → R ps d e → S ps e f → T ps d f) where
  mutual
    pub each_on : (t : Tree) (u v w : Valuation) → AtEachNode R g m t u v → AtEachNode S g m t v w → AtEachNode T g m t u w
    each_on (leaf c x) u v w r s = h (0 ∷ []) (u []) (v []) (w []) r s
    each_on (node p ts) u v w r s = (
      h (left_passes m (slice_get g.productions p)) (u []) (v []) (w []) r.0 s.0,
      each_on_all ts (children u) (children v) (children w) r.1 s.1,
    )

    each_on_all : (ts : Forest) (us vs ws : ℕ → Valuation) → AtEachNodeOf R g m ts us vs → AtEachNodeOf S g m ts vs ws
        → AtEachNodeOf T g m ts us ws
    each_on_all none us vs ws r s = tt
    each_on_all (more t ts) us vs ws r s =
        (each_on t (us 0) (vs 0) (ws 0) r.0 s.0, each_on_all ts (rest us) (rest vs) (rest ws) r.1 s.1)

-- If R relates two valuations at each node, and implies T at a node, then T relates them at each node.
module _ (R T : List ℕ → (ℕ → Value) → (ℕ → Value) → Type 0) (g : Grammar) (m : Passes)
    (h : (ps : List ℕ) (d e : ℕ → Value) → R ps d e → T ps d e) where
  mutual
    pub each_map : (t : Tree) (u v : Valuation) → AtEachNode R g m t u v → AtEachNode T g m t u v
    each_map (leaf c x) u v r = h (0 ∷ []) (u []) (v []) r
    each_map (node p ts) u v r =
        (h (left_passes m (slice_get g.productions p)) (u []) (v []) r.0, each_map_all ts (children u) (children v) r.1)

    each_map_all : (ts : Forest) (us vs : ℕ → Valuation) → AtEachNodeOf R g m ts us vs → AtEachNodeOf T g m ts us vs
    each_map_all none us vs r = tt
    each_map_all (more t ts) us vs r = (each_map t (us 0) (vs 0) r.0, each_map_all ts (rest us) (rest vs) r.1)

-- a valuation is the same as itself
module _ (W : ℕ → Type 0) (g : Grammar) (m : Passes) where
  mutual
    pub same_itself : (t : Tree) (u : Valuation) → Same W g m t u u
    same_itself (leaf c x) u = λ a p is w. refl
    same_itself (node p ts) u = ((λ a q is w. refl), same_themselves ts (children u))

    same_themselves : (ts : Forest) (us : ℕ → Valuation) → AtEachNodeOf (SameAt W) g m ts us us
    same_themselves none us = tt
    same_themselves (more t ts) us = (same_itself t (us 0), same_themselves ts (rest us))

-- valuations that are the same at the attributes of some passes are the same at those of fewer passes
pub same_weaker : (W X : ℕ → Type 0) (g : Grammar) (m : Passes) → ((p : ℕ) → X p → W p) → (t : Tree) (u v : Valuation)
    → Same W g m t u v → Same X g m t u v
same_weaker W X g m h t u v s = each_map (SameAt W) (SameAt X) g m (λ ps d e r a p is x. r a p is (h p x)) t u v s

-- sameness of valuations is transitive
pub same_on : (W : ℕ → Type 0) (g : Grammar) (m : Passes) (t : Tree) (u v w : Valuation) → Same W g m t u v → Same W g m t v w
    → Same W g m t u w
same_on W g m t u v w r s =
    each_on (SameAt W) (SameAt W) (SameAt W) g m (λ ps d e f r s a p is x. r a p is x ∙ s a p is x) t u v w r s

-- the predicate of no rule leaves nothing to prove
pub no_rules : (o : Option Production) (e : ℕ → ℕ → Value) → RulesHold NoRule o e
no_rules None e = tt
no_rules (Some q) e = λ r rule bad. absurd bad

-- For two valuations that are the same up to pass k: if the first gives each leaf its text, so does the
-- second; if the values of the first up to pass k are well, so are those of the second.
module _ (g : Grammar) (m : Passes) (k : ℕ) where
  mutual
    pub same_texts : (t : Tree) (u w : Valuation) → Same (λ p. p ≤ k) g m t u w → Solves NoRule g t u → Solves NoRule g t w
    same_texts (leaf c x) u w s texts = sym (s 0 0 refl (omega arith)) ∙ texts
    same_texts (node p ts) u w s texts =
        (no_rules (slice_get g.productions p) (at w), same_texts_all ts (children u) (children w) s.1 texts.1)

    same_texts_all : (ts : Forest) (us ws : ℕ → Valuation) → AtEachNodeOf (SameAt (λ p. p ≤ k)) g m ts us ws
        → SolvesAll NoRule g ts us → SolvesAll NoRule g ts ws
    same_texts_all none us ws s texts = tt
    same_texts_all (more t ts) us ws s texts =
        (same_texts t (us 0) (ws 0) s.0 texts.0, same_texts_all ts (rest us) (rest ws) s.1 texts.1)

  mutual
    pub each_well : (t : Tree) (u w : Valuation) → Same (λ p. p ≤ k) g m t u w → IsWellOn (λ p. p ≤ k) g m t u
        → IsWellOn (λ p. p ≤ k) g m t w
    each_well (leaf c x) u w s well = λ a p is le. subst IsWell (s a p is le) (well a p is le)
    each_well (node p ts) u w s well =
        ((λ a q is le. subst IsWell (s.0 a q is le) (well.0 a q is le)), each_well_all ts (children u) (children w) s.1 well.1)

    each_well_all : (ts : Forest) (us ws : ℕ → Valuation) → AtEachNodeOf (SameAt (λ p. p ≤ k)) g m ts us ws
        → AtEachNodeOf (WellAt (λ p. p ≤ k)) g m ts us us → AtEachNodeOf (WellAt (λ p. p ≤ k)) g m ts ws ws
    each_well_all none us ws s well = tt
    each_well_all (more t ts) us ws s well =
        (each_well t (us 0) (ws 0) s.0 well.0, each_well_all ts (rest us) (rest ws) s.1 well.1)

-- Values that solve the rules that satisfy W also solve those that satisfy X, if X implies W for the rules of
-- the grammar.
module _ (W X : Production → Rule → Type 0) (g : Grammar)
    (h : (p : ℕ) (q : Production) (r : Rule) → IsProduction g p q → IsRule q r → X q r → W q r) where
  wider_at : (p : ℕ) (o : Option Production) (e : ℕ → ℕ → Value) → slice_get g.productions p ≡ o → RulesHold W o e
      → RulesHold X o e
  wider_at p None e is s = tt
  wider_at p (Some q) e is s = λ r rule x. s r rule (h p q r is rule x)

  mutual
    pub solves_wider : (t : Tree) (v : Valuation) → Solves W g t v → Solves X g t v
    solves_wider (leaf c x) v s = s
    solves_wider (node p ts) v s = (wider_at p (slice_get g.productions p) (at v) refl s.0, solve_wider ts (children v) s.1)

    solve_wider : (ts : Forest) (vs : ℕ → Valuation) → SolvesAll W g ts vs → SolvesAll X g ts vs
    solve_wider none vs s = tt
    solve_wider (more t ts) vs s = (solves_wider t (vs 0) s.0, solve_wider ts (rest vs) s.1)

-- the rules whose target belongs to a pass that satisfies Y
abbrev pub OfPasses : Passes → (ℕ → Type 0) → Production → Rule → Type 0
OfPasses m Y q r = (k : ℕ) × Y k × HasPass m q r.target k

-- values that solve the rules of each pass that satisfies Y solve the rules of all these passes together
module _ (m : Passes) (Y : ℕ → Type 0) (g : Grammar) where
  each_pass_at : (o : Option Production) (e : ℕ → ℕ → Value) → ((k : ℕ) → Y k → RulesHold (OfPass m k) o e)
      → RulesHold (OfPasses m Y) o e
  each_pass_at None e s = tt
  each_pass_at (Some q) e s = λ r rule x. s x.0 x.1 r rule x.2

  mutual
    pub solves_each : (t : Tree) (v : Valuation) → Solves NoRule g t v → ((k : ℕ) → Y k → Solves (OfPass m k) g t v)
        → Solves (OfPasses m Y) g t v
    solves_each (leaf c x) v texts s = texts
    solves_each (node p ts) v texts s = (
      each_pass_at (slice_get g.productions p) (at v) (λ k y. (s k y).0),
      solve_each ts (children v) texts.1 (λ k y. (s k y).1),
    )

    solve_each : (ts : Forest) (vs : ℕ → Valuation) → SolvesAll NoRule g ts vs → ((k : ℕ) → Y k → SolvesAll (OfPass m k) g ts vs)
        → SolvesAll (OfPasses m Y) g ts vs
    solve_each none vs texts s = tt
    solve_each (more t ts) vs texts s =
        (solves_each t (vs 0) texts.0 (λ k y. (s k y).0), solve_each ts (rest vs) texts.1 (λ k y. (s k y).1))
