-- The whole list.
use Rattle.normalform.proofs.found.Marks.{ok_map}
use Rattle.normalform.proofs.found.Searched.{all_found}
use Rattle.normalform.proofs.checking.faults_of.Goals as goal

pub returns : goal.returns
returns c = record { exact = ok_map _ _ (all_found c.args.raw.now) c.found_faults.result c.found_faults.ensures }
