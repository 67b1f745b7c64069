use Rattle.ag_grammar.proofs.expressions.Depending.{value_of_occurrences}
use Rattle.ag_grammar.proofs.expressions.Occurring.{occurrences_are_listed}
use Rattle.ag_grammar.proofs.value_laws.values_rest_on_occurrences.Goals as goal

pub returns : goal.returns
returns c = record { value = value_of_occurrences; listed = occurrences_are_listed }
