use Rattle.treefile.proofs.WorkedRecords.{binary_numbered, iffy_recorded, iffy_unrecorded, nine_begins, number_alone, number_read}
use Rattle.treefile.proofs.WorkedRecords.{number_spelled, one_alone, one_recorded, root_of_one, sample_pass, sample_run, t_listed}
use Rattle.treefile.proofs.tree_laws.worked_records.Goals as goal

pub returns : goal.returns
returns c = record {
  numbered = binary_numbered;
  recorded = one_recorded 2;
  token = iffy_recorded;
  unrecorded = iffy_unrecorded;
  alone = one_alone;
  root = root_of_one;
  pass = sample_pass;
  run = sample_run;
  listed = t_listed;
  spelled = number_spelled;
  read = number_read;
  nothing = nine_begins;
  missing = number_alone;
}
