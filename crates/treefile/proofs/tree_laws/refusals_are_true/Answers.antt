use Rattle.treefile.proofs.framing.Way.{no_file_has_no_tree, way_breaks, reading_is_too_long}
use Rattle.treefile.proofs.tree_laws.refusals_are_true.Goals as goal

pub returns : goal.returns
returns c = record {
  breaks = way_breaks;
  long = reading_is_too_long;
  header = no_file_has_no_tree;
}
