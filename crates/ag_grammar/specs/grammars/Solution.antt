-- The values of the attributes at the nodes of a tree, and the solutions of a grammar's equations (Knuth
-- 1968).
use Rattle.std.specs.Prelude.{ℕ, zero, suc, ◌≡◌, List, [], ◌∷◌, Option, Some, None, slice_get}
use Rattle.ag_value.specs.declared.value.Value.{Value, Text}
use Rattle.ag_value.specs.Well.{IsWell}
use Rattle.ag_grammar.specs.expressions.Evaluation.{value_of}
use Rattle.ag_grammar.specs.declared.grammar.Production.{Production}
use Rattle.ag_grammar.specs.declared.grammar.Rule.{Rule}
use Rattle.ag_grammar.specs.declared.grammar.Target.{Target}
use Rattle.ag_grammar.specs.grammars.AttributeGrammar.{Grammar, IsRule}
use Rattle.ag_grammar.specs.grammars.Accepted.{IsOut}
use Rattle.ag_grammar.specs.grammars.Passes.{Passes, HasPass}
use Rattle.ag_grammar.specs.grammars.Tree.{Tree, Forest, leaf, node, none, more}

-- A valuation assigns a value to each attribute instance. An instance is given by the path of child indexes
-- from 0 that leads from the root to the node, and by the number of the attribute (Knuth 1968). The values at
-- instances that the tree does not have are irrelevant.
abbrev pub Valuation : Type 0
Valuation = List ℕ → ℕ → Value

-- the valuation of the tree of the child with index i
abbrev pub below : ℕ → Valuation → Valuation
below i v path = v (i ∷ path)

-- the valuation of the tree of each child, by the child's index
abbrev pub children : Valuation → ℕ → Valuation
children v i = below i v

-- the valuations of the children after the first
abbrev pub rest : (ℕ → Valuation) → ℕ → Valuation
rest vs i = vs (suc i)

-- the value of attribute a at a place: place 0 is the node itself, places 1, 2, .. are its children
abbrev pub at : Valuation → ℕ → ℕ → Value
at v zero a = v [] a
at v (suc i) a = v (i ∷ []) a

-- the valuation with the values f at a node and the valuations ws in its children
abbrev pub graft : (ℕ → Value) → (ℕ → Valuation) → Valuation
graft f ws [] = f
graft f ws (i ∷ path) = ws i path

-- An environment (`env`) has, for each occurrence of a rule's expression, the value of the attribute that the
-- occurrence refers to. `e` has the values of attributes, by place and number.
abbrev pub Supplies : Rule → (ℕ → ℕ → Value) → (ℕ → Value) → Type 0
Supplies r e env = (k : ℕ) (o : Target) → slice_get r.args k ≡ Some o → env k ≡ e o.place o.attr

-- A rule holds: its target has the value of its expression for the values of the attributes that its occurrences
-- refer to (Knuth 1968).
abbrev pub Holds : Rule → (ℕ → ℕ → Value) → Type 0
Holds r e = (env : ℕ → Value) → Supplies r e env → e r.target.place r.target.attr ≡ value_of r.expr.tree env

-- each rule of a production holds, if the rule satisfies W
abbrev pub RulesHold : (Production → Rule → Type 0) → Option Production → (ℕ → ℕ → Value) → Type 0
RulesHold W None e = Unit {0}
RulesHold W (Some q) e = (r : Rule) → IsRule q r → W q r → Holds r e

-- A valuation solves, on a tree, the rules that satisfy W: the attribute of each leaf is its text, and at
-- each node the rules of its production that satisfy W hold (Knuth 1968, with no restriction W).
abbrev mutual
  pub Solves : (Production → Rule → Type 0) → Grammar → Tree → Valuation → Type 0
  Solves W g (leaf c x) v = v [] 0 ≡ Text x
  Solves W g (node p ts) v = RulesHold W (slice_get g.productions p) (at v) × SolvesAll W g ts (children v)

  pub SolvesAll : (Production → Rule → Type 0) → Grammar → Forest → (ℕ → Valuation) → Type 0
  SolvesAll W g none vs = Unit {0}
  SolvesAll W g (more t ts) vs = Solves W g t (vs 0) × SolvesAll W g ts (rest vs)

-- the predicate of all rules
abbrev pub AnyRule : Production → Rule → Type 0
AnyRule q r = Unit {0}

-- the predicate of no rule: solving then means only that each leaf has its text
abbrev pub NoRule : Production → Rule → Type 0
NoRule q r = ⊥

-- the rules whose target belongs to pass k
abbrev pub OfPass : Passes → ℕ → Production → Rule → Type 0
OfPass m k q r = HasPass m q r.target k

-- the passes of the attributes of a production's left side
abbrev pub left_passes : Passes → Option Production → List ℕ
left_passes m None = []
left_passes m (Some q) = m q.left

-- At each node and leaf of a tree, R relates the passes of its attributes and their values in two valuations.
abbrev mutual
  pub AtEachNode : (List ℕ → (ℕ → Value) → (ℕ → Value) → Type 0) → Grammar → Passes → Tree → Valuation → Valuation → Type 0
  AtEachNode R g m (leaf c x) v w = R (0 ∷ []) (v []) (w [])
  AtEachNode R g m (node p ts) v w =
      R (left_passes m (slice_get g.productions p)) (v []) (w []) × AtEachNodeOf R g m ts (children v) (children w)

  pub AtEachNodeOf : (List ℕ → (ℕ → Value) → (ℕ → Value) → Type 0) → Grammar → Passes → Forest → (ℕ → Valuation) → (ℕ → Valuation)
      → Type 0
  AtEachNodeOf R g m none vs ws = Unit {0}
  AtEachNodeOf R g m (more t ts) vs ws = AtEachNode R g m t (vs 0) (ws 0) × AtEachNodeOf R g m ts (rest vs) (rest ws)

-- two valuations of a node have the same values at the attributes whose pass satisfies W; ps has the passes
-- of the attributes
abbrev pub SameAt : (ℕ → Type 0) → List ℕ → (ℕ → Value) → (ℕ → Value) → Type 0
SameAt W ps e f = (a p : ℕ) → slice_get ps a ≡ Some p → W p → e a ≡ f a

-- Two valuations are the same on a tree at the attributes whose pass satisfies W.
abbrev pub Same : (ℕ → Type 0) → Grammar → Passes → Tree → Valuation → Valuation → Type 0
Same W = AtEachNode (SameAt W)

-- the values e at a node are well at the attributes whose pass satisfies W; ps has the passes of the attributes; f is unused, and
-- is there because `AtEachNode` takes a relation of two valuations
abbrev pub WellAt : (ℕ → Type 0) → List ℕ → (ℕ → Value) → (ℕ → Value) → Type 0
WellAt W ps e f = (a p : ℕ) → slice_get ps a ≡ Some p → W p → IsWell (e a)

-- The values of a valuation on a tree are well at the attributes whose pass satisfies W; other instances are
-- not restricted.
abbrev pub IsWellOn : (ℕ → Type 0) → Grammar → Passes → Tree → Valuation → Type 0
IsWellOn W g m t v = AtEachNode (WellAt W) g m t v v

-- the predicate of all passes: with an assignment for every attribute, it selects all values of the tree
abbrev pub AnyPass : ℕ → Type 0
AnyPass p = Unit {0}

-- The translation is x: the value of the root's `out` (this project's).
abbrev pub IsTranslation : Grammar → Valuation → Value → Type 0
IsTranslation g v x = (a : ℕ) × IsOut g a × (v [] a ≡ x)
