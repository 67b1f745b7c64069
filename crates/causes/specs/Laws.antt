-- What the laws state: chains whose rules are read in a tree. In these definitions g is a grammar, t a tree, v its values, and n
-- a number of rules. All of this is this project's.
use Rattle.std.specs.Prelude.{ℕ, suc, ◌≡◌, List, map, Some}
use Rattle.ag_grammar.specs.declared.grammar.Production.{Production}
use Rattle.ag_grammar.specs.declared.grammar.Target.{Target}
use Rattle.ag_grammar.specs.grammars.Accepted.{IsAccepted}
use Rattle.ag_grammar.specs.grammars.AttributeGrammar.{Grammar, IsProduction}
use Rattle.ag_grammar.specs.grammars.Solution.{Valuation, at}
use Rattle.ag_grammar.specs.grammars.Tree.{Forest, Tree, node}
use Rattle.origins.specs.Causes.{HasCause, place_path, tree_at, values_at}
use Rattle.causes.specs.declared.next_rule.Next.{Next}
use Rattle.causes.specs.Chains.{DoesNext, IsCause, Reading}

-- At the node of a tree at the end of some places, which count from 1, the rule for a target does this with the tree's values.
pub record IsInTree (g : Grammar) (t : Tree) (v : Valuation) (places : List ℕ) (target : Target) (does : Next) : Type 0 where
  pub path : List ℕ
  pub counted : places ≡ map suc path
  pub production : ℕ
  pub trees : Forest
  pub there : tree_at (Some t) path ≡ Some (node production trees)
  pub of : Production
  pub is : IsProduction g production of
  pub next : DoesNext of.rules (at (values_at v path)) target does

-- the reading (`Chains.antt`) of a tree with its values
abbrev pub in_tree : Grammar → Tree → Valuation → Reading
in_tree g t v places target does = IsInTree g t v places target does

-- If a cause is found along the nodes of a tree, the error of the attribute that the first rule computes has a cause.
abbrev pub FoundIsCause : Type 0
FoundIsCause = (g : Grammar) (t : Tree) (v : Valuation) (path : List ℕ) (target : Target) (there : List ℕ) (number n : ℕ)
    → IsCause (in_tree g t v) (map suc path) target there number n → HasCause g t v (place_path path target.place) target.attr

-- The error of an attribute at a node has a cause that is found along the nodes of the tree: a chain leads to this cause from a
-- rule for the attribute. `instance` is the path of the attribute's node, and `path` that of the rule's node.
pub record IsFound (g : Grammar) (t : Tree) (v : Valuation) (instance : List ℕ) (attr : ℕ) : Type 0 where
  pub path : List ℕ
  pub target : Target
  pub of_instance : instance ≡ place_path path target.place
  pub of_attr : attr ≡ target.attr
  pub there : List ℕ
  pub number : ℕ
  pub steps : ℕ
  pub cause : IsCause (in_tree g t v) (map suc path) target there number steps

-- In an accepted grammar, if the error of an attribute at a node has a cause, it has one that is found along the nodes of the
-- tree.
abbrev pub CauseIsFound : Type 0
CauseIsFound = (g : Grammar) (t : Tree) (v : Valuation) (instance : List ℕ) (attr : ℕ) → IsAccepted g
    → HasCause g t v instance attr → IsFound g t v instance attr
