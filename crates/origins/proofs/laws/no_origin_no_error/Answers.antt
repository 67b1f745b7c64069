use Rattle.origins.proofs.Origin.{none_is_clean}
use Rattle.origins.proofs.laws.no_origin_no_error.Goals as goal

pub returns : goal.returns
returns c = none_is_clean
