use Rattle.ag_expr.proofs.language.Texts.{one_expression}
use Rattle.ag_expr.proofs.laws.a_text_reads_as_one_expression.Goals as goal

pub returns : goal.returns
returns c text one other is also = one_expression text one other is also
