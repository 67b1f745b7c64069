use Rattle.passassign.proofs.making.Rest.{rest_stuck}
use Rattle.passassign.proofs.laws.rest_is_stuck.Goals as goal

pub returns : goal.returns
returns c = rest_stuck
