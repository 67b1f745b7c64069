-- An expression as contracts see it (this project's).
use Rattle.std.specs.Prelude.{List}
use Rattle.ag_grammar.specs.declared.syntax.node.Node.{Node}
use Rattle.ag_grammar.specs.declared.syntax.occurrence.Occ.{Occ}

-- The tree of an expression, and the list of the occurrences to which the tree refers by their indexes.
pub record Expression : Type 0 where
  pub tree : Node
  pub occurrences : List Occ
