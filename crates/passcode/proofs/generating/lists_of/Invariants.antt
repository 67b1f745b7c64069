use Rattle.passcode.proofs.Common.{◌≡◌, length, passes_of, row_of}
use Rattle.passcode.proofs.lists.Collected.{AreGenerated}
use Rattle.passcode.proofs.generating.lists_of.Given as goal

abbrev pub invariant-loop-before : goal.invariant-loop-before
invariant-loop-before l = record {
  len : length l.lists.items ≡ l.before;
  lists : AreGenerated (passes_of l.assignment) l.production (row_of l.lists.items);
}
