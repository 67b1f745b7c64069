use Rattle.ag_grammar.proofs.grammars.Running.{run_begins, run_goes_on, run_is_the_solution, run_solves_rest}
use Rattle.ag_grammar.proofs.grammar_laws.runs_compose.Goals as goal

pub returns : goal.returns
returns c = record { begins = run_begins; goes = run_goes_on; rest = run_solves_rest; solution = run_is_the_solution }
