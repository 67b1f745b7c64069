-- The rules of the nodes of a tree, and which of them compute no error. In these definitions g is a grammar, t a tree and v its
-- values. All of this is this project's.
use Rattle.std.specs.Prelude.{ℕ, suc, ◌≡◌, ◌≤◌, List, [], map, None, Some}
use Rattle.ag_grammar.specs.declared.grammar.Production.{Production}
use Rattle.ag_grammar.specs.declared.grammar.Rule.{Rule}
use Rattle.ag_grammar.specs.declared.grammar.Target.{Target}
use Rattle.ag_grammar.specs.grammars.Accepted.{IsAccepted}
use Rattle.ag_grammar.specs.grammars.AttributeGrammar.{Grammar, IsProduction, IsRule}
use Rattle.ag_grammar.specs.grammars.Solution.{AnyRule, Solves, Valuation}
use Rattle.ag_grammar.specs.grammars.Tree.{Forest, Tree, max_nodes, node, node_count}
use Rattle.ag_value.specs.operations.Arguments.{fault_of}
use Rattle.tree_index.specs.Nodes.{IsIndexIn}
use Rattle.tree_index.specs.declared.index.TreeIndex.{TreeIndex}
use Rattle.origins.specs.Causes.{place_path, tree_at, values_at}
use Rattle.causes.specs.Indexed.{OfEachLast}

-- The node of a tree at the end of a path is one of the production q.
pub record IsNodeAt (g : Grammar) (t : Tree) (path : List ℕ) (q : Production) : Type 0 where
  pub number : ℕ
  pub trees : Forest
  pub there : tree_at (Some t) path ≡ Some (node number trees)
  pub is : IsProduction g number q

-- The node of a tree at the end of a path has a rule for a target.
pub record HasRule (g : Grammar) (t : Tree) (path : List ℕ) (target : Target) : Type 0 where
  pub of : Production
  pub here : IsNodeAt g t path of
  pub rule : Rule
  pub is : IsRule of rule
  pub gives : rule.target ≡ target

-- Let the values of a tree of at most 1,048,576 nodes be a solution, and let the node at the end of some places have a rule for a
-- target. Then the value of the attribute that this rule computes is not an error.
abbrev pub ComputesNoError : Grammar → List ℕ → Target → Tree → Valuation → Type 0
ComputesNoError g places target t v = node_count t ≤ max_nodes → Solves AnyRule g t v → (path : List ℕ) → places ≡ map suc path
    → HasRule g t path target → fault_of (values_at v (place_path path target.place) [] target.attr) ≡ None

-- If the grammar is accepted and the index is that of the content, `ComputesNoError` holds of each tree whose file of the last
-- pass the content is.
abbrev pub ComputesNoErrorIn : Grammar → TreeIndex → List ℕ → List ℕ → Target → Type 0
ComputesNoErrorIn g index content places target = IsAccepted g → IsIndexIn g content index
    → OfEachLast (ComputesNoError g places target) g content
