use Rattle.passassign.proofs.making.Whole.{whole_least}
use Rattle.passassign.proofs.laws.whole_is_least.Goals as goal

pub returns : goal.returns
returns c = whole_least
