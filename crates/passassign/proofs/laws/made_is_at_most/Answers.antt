use Rattle.passassign.proofs.making.Made.{made_at_most}
use Rattle.passassign.proofs.laws.made_is_at_most.Goals as goal

pub returns : goal.returns
returns c = made_at_most
