use Rattle.passassign.proofs.making.NoEarlier.{strikes_least}
use Rattle.passassign.proofs.laws.strikes_show_least.Goals as goal

pub returns : goal.returns
returns c = strikes_least
