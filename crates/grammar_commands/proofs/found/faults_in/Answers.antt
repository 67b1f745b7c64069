use Rattle.std.proofs.Common.{rules}
use Rattle.grammar_commands.proofs.NoLines.{none_of_text, none_without_line}
use Rattle.grammar_commands.proofs.found.faults_in.Goals as goal

pub returns-clause-none : goal.returns-clause-none
returns-clause-none c = search (none_of_text, none_without_line, rules)
