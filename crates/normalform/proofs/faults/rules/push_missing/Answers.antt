-- The step of the loop.
use Rattle.normalform.proofs.Common.{refl, missing_in, next_index}
use Rattle.normalform.proofs.Listing.{along_past}
use Rattle.normalform.proofs.faults.rules.push_missing.Goals as goal

pub loop-number-preserved : goal.loop-number-preserved
loop-number-preserved c =
    along_past (missing_in c.args.declared.now) next_index _ _ _ _ _ _ _ _ c.loop-number-test.true
    c.index-productions-number.is c.in_ok-push_missing_in.ensures refl c.loop-number.invariant
