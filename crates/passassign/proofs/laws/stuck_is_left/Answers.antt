use Rattle.passassign.proofs.making.Whole.{stuck_left}
use Rattle.passassign.proofs.laws.stuck_is_left.Goals as goal

pub returns : goal.returns
returns c = stuck_left
