use Rattle.ag_grammar.proofs.grammars.Running.{sample_ran}
use Rattle.ag_grammar.proofs.samples.sample_ran.Goals as goal

pub returns-clause-ran : goal.returns-clause-ran
returns-clause-ran c = sample_ran
