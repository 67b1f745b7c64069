use Rattle.origins.proofs.Caused.{errors_have_causes}
use Rattle.origins.proofs.Origin.{causes_have_origins}
use Rattle.origins.proofs.laws.errors_have_causes.Goals as goal

pub returns-clause-causes : goal.returns-clause-causes
returns-clause-causes c = errors_have_causes

pub returns-clause-origins : goal.returns-clause-origins
returns-clause-origins c = causes_have_origins
