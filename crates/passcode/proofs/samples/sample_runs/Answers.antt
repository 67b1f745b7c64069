use Rattle.passcode.proofs.Sampled.{sample_runs}
use Rattle.passcode.proofs.samples.sample_runs.Goals as goal

pub returns : goal.returns
returns c = sample_runs c.sample_legal.ensures
