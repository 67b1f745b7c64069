use Rattle.planchecker.proofs.Taken.{made_is_accepted}
use Rattle.planchecker.proofs.laws.made_is_accepted.Goals as goal

pub returns : goal.returns
returns c = made_is_accepted
