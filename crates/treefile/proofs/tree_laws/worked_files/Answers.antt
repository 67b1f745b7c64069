use Rattle.treefile.proofs.WorkedFiles.{copied_1, copied_2, copied_iffy, worked_0, worked_1, worked_2, worked_iffy}
use Rattle.treefile.proofs.tree_laws.worked_files.Goals as goal

pub returns-clause-first : goal.returns-clause-first
returns-clause-first c = worked_0

pub returns-clause-second : goal.returns-clause-second
returns-clause-second c = worked_1

pub returns-clause-third : goal.returns-clause-third
returns-clause-third c = worked_2

pub returns-clause-token : goal.returns-clause-token
returns-clause-token c = worked_iffy

pub returns-clause-copied_second : goal.returns-clause-copied_second
returns-clause-copied_second c = copied_1

pub returns-clause-copied_third : goal.returns-clause-copied_third
returns-clause-copied_third c = copied_2

pub returns-clause-copied_token : goal.returns-clause-copied_token
returns-clause-copied_token c = copied_iffy
