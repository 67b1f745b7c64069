use Rattle.llparse.proofs.Common.{◌+◌}
use Rattle.llparse.specs.table.Conflicts.{AreConflictsBefore}
use Rattle.llparse.proofs.table.conflicts.add_conflicts.Given as goal

abbrev pub invariant-loop-second : goal.invariant-loop-second
invariant-loop-second l =
    AreConflictsBefore l.grammar l.first (l.first + 1) l.initial.faults.items
    → AreConflictsBefore l.grammar l.first l.second l.faults.items
