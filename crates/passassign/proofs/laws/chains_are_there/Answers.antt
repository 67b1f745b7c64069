use Rattle.passassign.proofs.making.NoEarlier.{chain_there}
use Rattle.passassign.proofs.laws.chains_are_there.Goals as goal

pub returns : goal.returns
returns c = chain_there
