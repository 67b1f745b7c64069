use Rattle.passassign.proofs.Common.{numbers_of}
use Rattle.passassign.proofs.slots.TableRows.{AreRowsBelow}
use Rattle.passassign.proofs.table.rows.Given as goal

abbrev pub invariant-loop-index : goal.invariant-loop-index
invariant-loop-index l = AreRowsBelow l.symbols l.states l.index (numbers_of l.rows.items)
