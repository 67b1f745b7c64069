use Rattle.passassign.proofs.making.Rest.{members_stuck}
use Rattle.passassign.proofs.laws.members_are_stuck.Goals as goal

pub returns : goal.returns
returns c = members_stuck
