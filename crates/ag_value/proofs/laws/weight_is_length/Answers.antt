use Rattle.ag_value.proofs.Lengths.{length-spelling}
use Rattle.ag_value.proofs.laws.weight_is_length.Goals as goal

pub returns : goal.returns
returns c value = length-spelling value
