use Rattle.ag_job.proofs.Parts.{one_pair}
use Rattle.ag_job.proofs.laws.a_job_has_one_grammar_and_one_sentence.Goals as goal

pub returns : goal.returns
returns c = one_pair
