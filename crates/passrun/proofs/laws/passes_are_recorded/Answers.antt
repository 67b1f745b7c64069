use Rattle.passrun.proofs.RecordedPasses as telling
use Rattle.passrun.proofs.laws.passes_are_recorded.Goals as goal

pub returns : goal.returns
returns _ = telling.passes_are_recorded
