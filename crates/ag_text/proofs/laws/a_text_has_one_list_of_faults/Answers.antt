use Rattle.ag_text.proofs.AllFaults.{one_list}
use Rattle.ag_text.proofs.laws.a_text_has_one_list_of_faults.Goals as goal

pub returns : goal.returns
returns c text left right are also = one_list text left right are also
