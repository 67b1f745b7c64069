use Rattle.llparse.proofs.Common.{◌≡◌, length, AreEarliestFrom, IsLeastFrom}
use Rattle.llparse.proofs.table.choosing.choose.Given as goal

abbrev pub invariant-loop-at : goal.invariant-loop-at
invariant-loop-at l = record {
  len : length l.column.choices.items ≡ l.symbols;
  earliest : AreEarliestFrom l.productions l.marks l.at l.column.choices.items;
  least : IsLeastFrom l.productions l.marks l.at l.column.conflict;
}
