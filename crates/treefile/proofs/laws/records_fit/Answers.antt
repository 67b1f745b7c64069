use Rattle.treefile.proofs.records.Sizes.{body_size}
use Rattle.treefile.proofs.laws.records_fit.Goals as goal

pub returns-clause-greatest : goal.returns-clause-greatest
returns-clause-greatest c = body_size
