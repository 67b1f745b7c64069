use Rattle.std.proofs.Common.{◌≡◌, ◌++◌, drop, None}
use Rattle.grammar_commands.specs.FaultLists.{lines_after}
use Rattle.grammar_commands.proofs.found.lines_of.Given as goal

abbrev pub invariant-loop-fault : goal.invariant-loop-fault
invariant-loop-fault l = l.lines.items ++ lines_after l.before (drop l.fault-index l.faults) ≡ lines_after None l.faults
