use Rattle.ag_grammar.proofs.grammars.Translated.{one_translation}
use Rattle.ag_grammar.proofs.grammar_laws.one_translation.Goals as goal

pub returns : goal.returns
returns c = one_translation
