use Rattle.std.specs.Vec.Iter.{into_iter_items}
use Rattle.grammar_commands.specs.FaultLists.{AreReported}
use Rattle.program_io.specs.Sessions.{State}
use Rattle.grammar_commands.proofs.faults.report_each.Given as goal

abbrev pub invariant-loop-fault : goal.invariant-loop-fault
invariant-loop-fault g l = (new : State)
    → AreReported (into_iter_items l.fault-iterator) l.session new
    → AreReported l.fn.faults.items l.fn.session new
