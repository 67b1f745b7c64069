-- The remaining goals of `head_is_first`.
use Rattle.normalform.proofs.found.Searched.{listed_first}
use Rattle.normalform.proofs.laws.head_is_first.Goals as goal

pub returns : goal.returns
returns c = listed_first
