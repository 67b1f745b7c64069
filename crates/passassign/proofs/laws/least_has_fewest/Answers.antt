use Rattle.passassign.proofs.making.Fewest.{least_fewest}
use Rattle.passassign.proofs.laws.least_has_fewest.Goals as goal

pub returns : goal.returns
returns c = least_fewest
