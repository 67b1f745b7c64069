use Rattle.ag_text.proofs.AllFaults.{head_is_first}
use Rattle.ag_text.proofs.laws.the_list_begins_with_the_first_fault.Goals as goal

pub returns : goal.returns
returns c text answer faults is memory are = head_is_first text answer faults is memory are
