-- The step of the loop.
use Rattle.normalform.proofs.Common.{arith, missing_check}
use Rattle.normalform.proofs.Listing.{range_past}
use Rattle.normalform.proofs.faults.rules.push_missing_at.Goals as goal

pub loop-attr-preserved : goal.loop-attr-preserved
loop-attr-preserved c = record {
  ordered = omega arith;
  faults =
      range_past (missing_check c.args.targets.now c.args.production c.args.place) _ _ _ _ _ c.loop-attr-test.true
      (rw c.has.ensures at c.in_ok-push_unless.ensures) c.loop-attr.invariant.faults;
}
