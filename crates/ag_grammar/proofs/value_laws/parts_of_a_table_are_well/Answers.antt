use Rattle.ag_grammar.proofs.values.Worked.{got_is_well, keys_are_well}
use Rattle.ag_grammar.proofs.value_laws.parts_of_a_table_are_well.Goals as goal

pub returns-clause-keys : goal.returns-clause-keys
returns-clause-keys c = keys_are_well

pub returns-clause-got : goal.returns-clause-got
returns-clause-got c = got_is_well
