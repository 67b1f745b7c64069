use Rattle.pass_rows.proofs.Common.{length}
use Rattle.pass_rows.proofs.layouts.rows.+rank.Given as goal

abbrev pub decreases-rank : goal.decreases-rank
decreases-rank l = length l.passes.now
