use Rattle.ag_grammar.proofs.Common.{outs-Fault, outs-Num, outs-Text}
use Rattle.ag_value.specs.operations.Arguments.{leftmost}
use Rattle.ag_grammar.proofs.expressions.Trees.{value-Bound, value-Chain, value-If, value-Let, value-Literal, value-Unary}
use Rattle.ag_grammar.proofs.values.Worked.{fit_number}
use Rattle.ag_grammar.proofs.value_laws.worked_errors.Goals as goal

pub returns : goal.returns
unfolding leftmost
returns c = record {
  leftmost = simp outs-Fault;
  before_kind = simp (outs-Fault, outs-Text);
  kind_by_zero = simp (outs-Num, outs-Text);
  kind_at_place = simp (outs-Num, outs-Text);
  item = simp (outs-Fault, outs-Num);
  either = simp outs-Num;
  other = simp outs-Fault;
  condition = λ e f. simp outs-Text;
  bound = λ env. simp (value-Let, value-Unary, value-Bound, value-Chain, value-Literal, fit_number, outs-Num, outs-Fault);
  branch = λ env. simp (value-If, value-Chain, value-Literal, fit_number, outs-Num);
}
