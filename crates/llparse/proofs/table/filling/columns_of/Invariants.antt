use Rattle.llparse.proofs.Common.{◌≡◌, length, rows}
use Rattle.llparse.specs.table.Columns.{AreColumns, IsLeastBelow}
use Rattle.llparse.proofs.table.filling.columns_of.Given as goal

abbrev pub invariant-loop-index : goal.invariant-loop-index
invariant-loop-index l = record {
  count : length l.choices.items ≡ l.index;
  columns : AreColumns l.grammar l.index (rows l.choices.items);
  least : IsLeastBelow l.grammar l.index l.conflict;
}
