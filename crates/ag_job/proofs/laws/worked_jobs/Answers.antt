use Rattle.ag_job.proofs.Worked.{cr_alone_is_none, cr_and_lf_end, longer_is_none, nothing_before, spaced_is_none, the_first_cuts}
use Rattle.ag_job.proofs.Worked.{the_last_ends}
use Rattle.ag_job.proofs.laws.worked_jobs.Goals as goal

pub returns : goal.returns
returns c = record {
  cr_and_lf = cr_and_lf_end;
  last = the_last_ends;
  first = the_first_cuts;
  empty = nothing_before;
  cr_alone = cr_alone_is_none;
  spaced = spaced_is_none;
  longer = longer_is_none;
}
