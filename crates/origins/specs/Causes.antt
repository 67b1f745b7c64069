-- The cause of an error: the rule in which it arises, at the end of a chain of rules that passed it on. In these definitions g is
-- a grammar, t a tree, v its values, r a rule, e a table, o an argument, and a the number of an attribute. All of this is this
-- project's.
use Rattle.std.specs.Prelude.{ℕ, zero, suc, ◌≡◌, ◌⊎◌, true, false, nat_lt, List, [], ◌∷◌, ◌++◌, Option, Some, None, slice_get}
use Rattle.std.specs.Prelude.{if◌then◌else◌, Bool}
use Rattle.ag_value.specs.declared.value.Value.{Value}
use Rattle.ag_grammar.specs.declared.grammar.Production.{Production}
use Rattle.ag_grammar.specs.declared.grammar.Rule.{Rule}
use Rattle.ag_grammar.specs.declared.grammar.Target.{Target}
use Rattle.ag_grammar.specs.expressions.Evaluation.{value_of}
use Rattle.ag_value.specs.operations.Arguments.{fault_of}
use Rattle.ag_grammar.specs.grammars.Accepted.{IsAccepted}
use Rattle.ag_grammar.specs.grammars.AttributeGrammar.{Grammar, IsProduction, IsRule}
use Rattle.ag_grammar.specs.grammars.Passes.{IsLegal, Passes}
use Rattle.ag_grammar.specs.grammars.Solution.{AnyRule, Solves, Valuation, at, below, left_passes}
use Rattle.ag_grammar.specs.grammars.Tree.{Forest, IsTreeOf, Tree, leaf, node, none, more}
use Rattle.origins.specs.Arising.{Table, environment, exchanged, is_arising, is_same_error}
use Rattle.origins.specs.Origins.{child_of}

-- The path of the node at a place of the node with the given path. Place 0 is the node itself, and place i + 1 its child number
-- i, from 0. A rule's target or argument is an attribute of the node at its place.
abbrev pub place_path : List ℕ → ℕ → List ℕ
place_path path zero = path
place_path path (suc i) = path ++ i ∷ []

-- the values of a rule's arguments, with the errors among the first n exchanged
abbrev pub exchanged_below : ℕ → (ℕ → Value) → ℕ → Value
exchanged_below n env k = if nat_lt k n then exchanged (env k) else env k

-- a test: a rule's value is an error, and is still this error if the errors among the rule's first n arguments are exchanged
unfoldable pub is_still : Rule → Table → ℕ → Bool
is_still r e n =
    is_same_error (fault_of (value_of r.expr.tree (environment r e)))
    (fault_of (value_of r.expr.tree (exchanged_below n (environment r e))))

-- Argument k (counted from 0) passes its error on to a rule. If the errors among the arguments before k are exchanged, the rule
-- still has its error. If the error of argument k is exchanged as well, the rule does not have this error.
pub record IsSource (r : Rule) (e : Table) (k : ℕ) : Type 0 where
  pub before : is_still r e k ≡ true
  pub after : is_still r e (suc k) ≡ false

-- `Some`: this argument passes its error on to the rule. `None`: the rule's value is not an error, or an error arises in the
-- rule.
abbrev pub AnswersSource : Rule → Table → Option Target → Type 0
AnswersSource r e None = (fault_of (value_of r.expr.tree (environment r e)) ≡ None) ⊎ (is_arising e r ≡ true)
AnswersSource r e (Some o) = (k : ℕ) × (slice_get r.args k ≡ Some o) × IsSource r e k

-- the tree at the end of a path of child numbers, if there is one
abbrev pub tree_at : Option Tree → List ℕ → Option Tree
tree_at t [] = t
tree_at t (i ∷ path) = tree_at (child_of t i) path

-- the values of the tree at the end of a path, from those of the whole tree
abbrev pub values_at : Valuation → List ℕ → Valuation
values_at v [] = v
values_at v (i ∷ path) = values_at (below i v) path

-- r is a rule of the production of the node at the end of a path, and e has the values at the places of this node.
pub record IsRuleAt (g : Grammar) (t : Tree) (v : Valuation) (path : List ℕ) (r : Rule) (e : Table) : Type 0 where
  pub production : ℕ
  pub trees : Forest
  pub there : tree_at (Some t) path ≡ Some (node production trees)
  pub of : Production
  pub is : IsProduction g production of
  pub rule : IsRule of r
  pub values : e ≡ at (values_at v path)

-- The error of an attribute of the node at the end of a path has a cause. Either the error arises in the rule that defines this
-- attribute of the node. Or that rule passes on the error of an argument, and the error of this argument has a cause.
pub data HasCause (g : Grammar) (t : Tree) (v : Valuation) : List ℕ → ℕ → Type 0 where
  here : (path : List ℕ) (r : Rule) (e : Table) → IsRuleAt g t v path r e → is_arising e r ≡ true
      → HasCause g t v (place_path path r.target.place) r.target.attr
  passed : (path : List ℕ) (r : Rule) (e : Table) (k : ℕ) (o : Target) → IsRuleAt g t v path r e → IsSource r e k
      → slice_get r.args k ≡ Some o → HasCause g t v (place_path path o.place) o.attr
      → HasCause g t v (place_path path r.target.place) r.target.attr

-- `R path ps` holds at each node of a tree. `path` leads to the node, and ps has the pass of each attribute of the node, by
-- number. (So ps shows which attributes the node has.) A token has one attribute, `lex`, of pass 0. The path of `HoldsAt` is that
-- of the tree's root. `HoldsIn` is about some children of a node: its path is that of the node, and n the number of the first
-- child.
abbrev mutual
  pub HoldsAt : (List ℕ → List ℕ → Type 0) → Grammar → Passes → Tree → List ℕ → Type 0
  HoldsAt R g m (leaf c x) path = R path (0 ∷ [])
  HoldsAt R g m (node p ts) path = R path (left_passes m (slice_get g.productions p)) × HoldsIn R g m ts path 0

  pub HoldsIn : (List ℕ → List ℕ → Type 0) → Grammar → Passes → Forest → List ℕ → ℕ → Type 0
  HoldsIn R g m none path n = Unit {0}
  HoldsIn R g m (more t ts) path n = HoldsAt R g m t (path ++ n ∷ []) × HoldsIn R g m ts path (suc n)

-- In an accepted grammar with a legal assignment each error of a solution has a cause.
abbrev pub ErrorsHaveCauses : Type 0
ErrorsHaveCauses = (g : Grammar) (m : Passes) (t : Tree) (v : Valuation) → IsAccepted g → IsLegal g m → IsTreeOf g t
    → Solves AnyRule g t v
    → HoldsAt (λ path ps. (a p : ℕ) → slice_get ps a ≡ Some p → (fault_of (values_at v path [] a) ≡ None) ⊎ HasCause g t v path a)
    g m t []
