use Rattle.origins.proofs.Common.{length}
use Rattle.origins.proofs.slots.+copies_before.Given as goal

abbrev pub decreases-copies_before : goal.decreases-copies_before
decreases-copies_before l = length l.items.now
