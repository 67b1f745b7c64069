use Rattle.treefile.proofs.records.OneTree.{tree_at_end, leading_tree}
use Rattle.treefile.proofs.records.Spelled.{same_node}
use Rattle.treefile.proofs.tree_laws.records_determine_trees.Goals as goal

pub returns : goal.returns
returns c = record { node = same_node; leading = leading_tree; end = tree_at_end }
