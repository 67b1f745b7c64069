use Rattle.llparse.proofs.look_ahead.ConflictLaws.{one_list_of_conflicts}
use Rattle.llparse.proofs.laws.one_list_of_conflicts.Goals as goal

pub returns : goal.returns
returns c = one_list_of_conflicts
