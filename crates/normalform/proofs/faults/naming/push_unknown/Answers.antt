-- The step of the loop.
use Rattle.normalform.proofs.Common.{unknown_in}
use Rattle.normalform.proofs.Listing.{flat_past}
use Rattle.normalform.proofs.faults.naming.push_unknown.Goals as goal

pub loop-production-preserved : goal.loop-production-preserved
loop-production-preserved c =
    flat_past (unknown_in c.args.declared.now) _ _ _ _ _ _ c.loop-production-test.true c.production-item.is
    c.in_ok-push_unknown_in.ensures
    c.loop-production.invariant
