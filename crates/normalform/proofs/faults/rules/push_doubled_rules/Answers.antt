-- The step of the loop.
use Rattle.normalform.proofs.Common.{doubled_in}
use Rattle.normalform.proofs.Listing.{flat_past}
use Rattle.normalform.proofs.faults.rules.push_doubled_rules.Goals as goal

pub loop-production-preserved : goal.loop-production-preserved
loop-production-preserved c =
    flat_past doubled_in _ _ _ _ _ _ c.loop-production-test.true c.production-item.is
    (rw c.as_slice.ensures at c.in_ok-push_doubled_in.ensures)
    c.loop-production.invariant
