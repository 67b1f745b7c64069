use Rattle.treefile.proofs.records.Orders.{one_tree, one_tree_at_end}
use Rattle.treefile.proofs.tree_laws.lists_determine_trees.Goals as goal

pub returns-clause-begins : goal.returns-clause-begins
returns-clause-begins c = one_tree

pub returns-clause-ends : goal.returns-clause-ends
returns-clause-ends c = one_tree_at_end
