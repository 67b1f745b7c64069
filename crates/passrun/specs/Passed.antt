-- The result of a pass over a tree file: it reads the file of the previous pass backward, and writes its own
-- file of the same tree (after Jazayeri and Walter 1975). The form of the definitions, the limits and the
-- counts are this project's.
use Rattle.std.specs.Prelude.{ℕ, ◌≡◌, List}
use Rattle.ag_grammar.specs.grammars.Solution.{Valuation, Solves, OfPass}
use Rattle.ag_grammar.specs.grammars.Tree.{Tree, IsTreeOf, IsWithinLimits, node_count, max_depth, max_nodes}
use Rattle.ag_grammar.specs.grammars.Counts.{rules_of_pass}
use Rattle.treefile.specs.records.Records.{IsFileOfTree}
use Rattle.treefile.specs.records.TreeFile.{version_two}
use Rattle.passcode.specs.Settings.{Setting}

-- The pass of the setting c ran. There are a tree and values such that `content` is their file of the previous pass, and `to`
-- their file of the pass. The values satisfy each equation whose target is of the pass (Knuth 1968). The tree is within the
-- limits. `count` is the number of its nodes, and `evals` that of its rules of the pass.
pub record IsPassed (c : Setting) (content to : List ℕ) (count evals : ℕ) : Type 0 where
  pub tree : Tree
  pub values : Valuation
  pub fits : IsTreeOf c.grammar tree
  pub from : IsFileOfTree version_two c.grammar c.passes c.read tree values content
  pub written : IsFileOfTree version_two c.grammar c.passes c.write tree values to
  pub solved : Solves (OfPass c.passes c.write) c.grammar tree values
  pub limits : IsWithinLimits max_depth max_nodes tree
  pub nodes : count ≡ node_count tree
  pub rules : evals ≡ rules_of_pass c.passes c.write c.grammar tree
