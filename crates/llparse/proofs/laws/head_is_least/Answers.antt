use Rattle.llparse.proofs.look_ahead.ConflictLaws.{head_is_least}
use Rattle.llparse.proofs.laws.head_is_least.Goals as goal

pub returns : goal.returns
returns c = head_is_least
