use Rattle.treefile.proofs.framing.Root.{root_is_last, values_are_whole}
use Rattle.treefile.proofs.tree_laws.root_is_last.Goals as goal

pub returns : goal.returns
returns c = record { last = root_is_last; values = values_are_whole }
