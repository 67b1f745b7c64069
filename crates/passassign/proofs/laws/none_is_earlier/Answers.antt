use Rattle.passassign.proofs.making.NoEarlier.{none_earlier}
use Rattle.passassign.proofs.laws.none_is_earlier.Goals as goal

pub returns : goal.returns
returns c = none_earlier
