use Rattle.passassign.proofs.making.Made.{left_later}
use Rattle.passassign.proofs.laws.left_is_later.Goals as goal

pub returns : goal.returns
returns c = left_later
