use Rattle.pass_rows.proofs.Common.{length}
use Rattle.pass_rows.proofs.layouts.rows.+row_length.Given as goal

abbrev pub decreases-row_length : goal.decreases-row_length
decreases-row_length l = length l.passes.now
