use Rattle.treefile.proofs.Run.{goes_on_run, refusal_goes_back, refusal_within_goes_back, starts_run}
use Rattle.treefile.proofs.tree_laws.passes_follow_files.Goals as goal

pub returns : goal.returns
returns c = record { begins = starts_run; goes = goes_on_run; refused = refusal_goes_back; within = refusal_within_goes_back }
