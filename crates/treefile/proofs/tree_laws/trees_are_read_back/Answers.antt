use Rattle.treefile.proofs.records.Records.{file_back, file_fits}
use Rattle.treefile.proofs.tree_laws.trees_are_read_back.Goals as goal

pub returns-clause-bodies : goal.returns-clause-bodies
returns-clause-bodies c version g m k t v content fits tree is = file_fits version g m k t v content fits tree is

pub returns-clause-back : goal.returns-clause-back
returns-clause-back c version g m k t v content usable fits tree is = file_back version g m k t v content fits tree is usable
