use Rattle.passcode.proofs.Common.{passes_of}
use Rattle.passcode.proofs.lists.Collected.{lists_more}
use Rattle.passcode.proofs.Slices.{length_pushed}
use Rattle.passcode.proofs.generating.lists_of.Goals as goal

pub loop-before-preserved : goal.loop-before-preserved
loop-before-preserved c = record {
  len = length_pushed _ _ _ _ c.in_ok-push.ensures.items c.loop-before.invariant.len;
  lists = lists_more (passes_of c.args.assignment.now) c.args.production.now _ _ _ _ c.in_ok-push.ensures.items
      c.loop-before.invariant.len c.in_ok-list.ensures c.loop-before.invariant.lists;
}
