use Rattle.llparse.proofs.Unique as unique
use Rattle.llparse.proofs.laws.one_tree.Goals as goal

pub returns : goal.returns
returns c g free t u fits also same = unique.one_tree g free t u fits also same
