use Rattle.ag_text.proofs.Agree.{one_grammar}
use Rattle.ag_text.proofs.laws.a_text_reads_as_one_grammar.Goals as goal

pub returns : goal.returns
returns c text left right is also = one_grammar text left right is also
