use Rattle.ag_grammar.proofs.values.Worked.{same_is_one}
use Rattle.ag_grammar.proofs.value_laws.equality_distinguishes_values.Goals as goal

pub returns : goal.returns
returns c = same_is_one
