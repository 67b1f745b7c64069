use Rattle.std.proofs.Common.{◌≡◌, ◌++◌, drop, map}
use Rattle.ag_fault.specs.declared.fault.Fault.TheVariants as fault
use Rattle.grammar_commands.proofs.found.faults_of_text.Given as goal

abbrev pub invariant-loop-fault : goal.invariant-loop-fault
invariant-loop-fault l = l.lines.items ++ map fault.Text (drop l.fault-index l.faults) ≡ map fault.Text l.faults
