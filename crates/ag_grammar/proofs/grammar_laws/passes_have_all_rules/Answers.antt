use Rattle.ag_grammar.proofs.grammars.Counting.{passes_have_all_rules}
use Rattle.ag_grammar.proofs.grammar_laws.passes_have_all_rules.Goals as goal

pub returns : goal.returns
returns c = passes_have_all_rules
