-- The loop of `cut_of`: no separator begins before the current offset.
use Rattle.std.proofs.Common.{ℕ, List, ◌<◌, length}
use Rattle.ag_job.specs.Jobs.{IsCut}
use Rattle.ag_job.proofs.cutting.cut_of.Given as goal

abbrev pub invariant-loop-at : goal.invariant-loop-at
invariant-loop-at l = (text sentence : List ℕ) → length text < l.at → IsCut l.bytes text sentence → ⊥
