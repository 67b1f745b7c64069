use Rattle.treefile.proofs.records.Orders.{turned}
use Rattle.treefile.proofs.tree_laws.reversed_postfix_is_prefix.Goals as goal

pub returns : goal.returns
returns c = turned
