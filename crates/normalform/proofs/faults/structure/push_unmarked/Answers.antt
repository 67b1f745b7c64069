-- The step of the loop.
use Rattle.normalform.proofs.Common.{refl, next_index}
use Rattle.normalform.specs.faults.AllFaults.{marked_check}
use Rattle.normalform.proofs.Listing.{along_past}
use Rattle.normalform.proofs.faults.structure.push_unmarked.Goals as goal

pub loop-number-preserved : goal.loop-number-preserved
loop-number-preserved c =
    along_past (marked_check c.args.symbol_check c.args.marks.now) next_index _ _ _ _ _ _ _ _ c.loop-number-test.true
    c.index-symbols-number.is c.in_ok-push_if_unmarked.ensures refl c.loop-number.invariant
