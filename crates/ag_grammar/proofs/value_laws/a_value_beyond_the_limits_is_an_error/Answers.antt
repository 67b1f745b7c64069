use Rattle.ag_grammar.proofs.values.Worked.{big_next, deep_first, fits}
use Rattle.ag_grammar.proofs.value_laws.a_value_beyond_the_limits_is_an_error.Goals as goal

pub returns-clause-deep : goal.returns-clause-deep
returns-clause-deep c = deep_first

pub returns-clause-big : goal.returns-clause-big
returns-clause-big c = big_next

pub returns-clause-fits : goal.returns-clause-fits
returns-clause-fits c = fits
