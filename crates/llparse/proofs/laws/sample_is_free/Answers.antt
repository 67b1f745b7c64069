use Rattle.llparse.proofs.Examples.{sample_free}
use Rattle.llparse.proofs.laws.sample_is_free.Goals as goal

pub returns : goal.returns
returns c = sample_free
