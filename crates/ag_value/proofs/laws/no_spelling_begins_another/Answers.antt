use Rattle.ag_value.proofs.Codec.{prefix_free}
use Rattle.ag_value.proofs.laws.no_spelling_begins_another.Goals as goal

pub returns : goal.returns
returns c value other rest well well' e = prefix_free value other rest well well' e
