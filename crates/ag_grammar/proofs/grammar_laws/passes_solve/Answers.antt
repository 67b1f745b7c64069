use Rattle.ag_grammar.proofs.grammars.Kept.{passes_solve}
use Rattle.ag_grammar.proofs.grammar_laws.passes_solve.Goals as goal

pub returns : goal.returns
returns c = passes_solve
