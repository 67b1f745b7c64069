-- The remaining goals of `no_fault_where_accepted`.
use Rattle.normalform.proofs.numbered.Accepting.{no_fault}
use Rattle.normalform.proofs.laws.no_fault_where_accepted.Goals as goal

pub returns : goal.returns
returns c = no_fault
