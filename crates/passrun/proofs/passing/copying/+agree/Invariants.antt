use Rattle.passrun.proofs.Common.{length}
use Rattle.passrun.proofs.passing.copying.+agree.Given as goal

abbrev pub decreases-agree : goal.decreases-agree
decreases-agree l = length l.passes.now
