use Rattle.llparse.proofs.Common.{◌+◌}
use Rattle.llparse.specs.table.Conflicts.{AreConflictsBefore}
use Rattle.llparse.proofs.table.conflicts.conflicts.Given as goal

abbrev pub invariant-loop-first : goal.invariant-loop-first
invariant-loop-first l = AreConflictsBefore l.grammar l.first (l.first + 1) l.faults.items
