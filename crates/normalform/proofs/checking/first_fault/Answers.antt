-- The head of the list.
use Rattle.normalform.proofs.found.Searched.{head_found}
use Rattle.normalform.proofs.checking.first_fault.Goals as goal

pub returns : goal.returns
returns c = head_found _ _ _ c.in_ok-faults.ensures c.into_first.ensures
