use Rattle.std.proofs.Common.{◌++◌, ℕ, List, string_bytes}
use Rattle.std.specs.Vec.Iter.{into_iter_items}
use Rattle.grammar_commands.specs.FaultLists.{AreObjectsOf}
use Rattle.grammar_commands.proofs.faults.lines_of_objects.Given as goal

abbrev pub invariant-loop-fault : goal.invariant-loop-fault
invariant-loop-fault l = (others : List ℕ)
    → AreObjectsOf (into_iter_items l.fault-iterator) others
    → AreObjectsOf l.fn.faults.items (string_bytes l.lines ++ others)
