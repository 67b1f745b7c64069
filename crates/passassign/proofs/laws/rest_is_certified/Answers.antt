use Rattle.passassign.proofs.making.Rest.{rest_certified}
use Rattle.passassign.proofs.laws.rest_is_certified.Goals as goal

pub returns : goal.returns
returns c = rest_certified
