use Rattle.llparse.proofs.Common.{◌≡◌, length, rows}
use Rattle.llparse.specs.table.Conflicts.{AreMarksBelow}
use Rattle.llparse.proofs.table.conflicts.marks_of.Given as goal

abbrev pub invariant-loop-index : goal.invariant-loop-index
invariant-loop-index l = record {
  count : length l.lists.items ≡ l.index;
  marks : AreMarksBelow l.grammar l.index (rows l.lists.items);
}
