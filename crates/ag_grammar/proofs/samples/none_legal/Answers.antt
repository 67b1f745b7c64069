use Rattle.ag_grammar.proofs.grammars.samples.Refused.{none_legal}
use Rattle.ag_grammar.proofs.samples.none_legal.Goals as goal

pub returns : goal.returns
returns c = none_legal
