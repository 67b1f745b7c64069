-- The remaining goals of `one_list`.
use Rattle.normalform.proofs.found.Searched.{one_list}
use Rattle.normalform.proofs.laws.one_list.Goals as goal

pub returns : goal.returns
returns c = one_list
