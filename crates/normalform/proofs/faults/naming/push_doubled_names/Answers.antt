-- The step of the loop.
use Rattle.normalform.proofs.Common.{new_check, with_name}
use Rattle.normalform.proofs.Listing.{along_past, fold_past}
use Rattle.normalform.proofs.faults.naming.push_doubled_names.Goals as goal

pub loop-name-preserved : goal.loop-name-preserved
loop-name-preserved c = record {
  faults =
      along_past new_check with_name _ _ _ _ _ _ _ _ c.loop-name-test.true c.name-item.is
      c.in_ok-push_doubled_name.ensures.faults c.in_ok-push_doubled_name.ensures.seen c.loop-name.invariant.faults;
  seen =
      fold_past with_name _ _ _ _ _ _ c.loop-name-test.true c.name-item.is c.in_ok-push_doubled_name.ensures.seen
      c.loop-name.invariant.seen;
}
