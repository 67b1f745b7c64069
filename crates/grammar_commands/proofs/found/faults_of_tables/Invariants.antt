use Rattle.std.proofs.Common.{◌≡◌, ◌++◌, drop, map}
use Rattle.ag_fault.specs.declared.fault.Fault.TheVariants as fault
use Rattle.grammar_commands.proofs.found.faults_of_tables.Given as goal

abbrev pub invariant-loop-conflict : goal.invariant-loop-conflict
invariant-loop-conflict l = l.lines.items ++ map fault.Table (drop l.conflict-index l.conflicts) ≡ map fault.Table l.conflicts
