use Rattle.llparse.proofs.look_ahead.ConflictLaws.{empty_if_free}
use Rattle.llparse.proofs.laws.empty_if_free.Goals as goal

pub returns : goal.returns
returns c = empty_if_free
