-- The step of the loop.
use Rattle.normalform.proofs.Common.{symbol_checks, with_symbol}
use Rattle.normalform.proofs.Listing.{along_past}
use Rattle.normalform.proofs.faults.naming.push_doubled.Goals as goal

pub loop-symbol-preserved : goal.loop-symbol-preserved
loop-symbol-preserved c =
    along_past symbol_checks with_symbol _ _ _ _ _ _ _ _ c.loop-symbol-test.true c.symbol-item.is
    c.in_ok-push_doubled_in.ensures.faults c.in_ok-push_doubled_in.ensures.seen c.loop-symbol.invariant
