use Rattle.ag_grammar.proofs.Common.{outs-Num, outs-Text}
use Rattle.ag_value.specs.operations.Arguments.{leftmost}
use Rattle.ag_grammar.proofs.value_laws.worked_numbers.Goals as goal

pub returns : goal.returns
unfolding leftmost
returns c = record {
  quotient = simp outs-Num;
  remainder = simp outs-Num;
  least_quotient = simp outs-Num;
  least_remainder = simp outs-Num;
  zeros = simp outs-Text;
  zero = simp outs-Text;
  least_spelled = simp outs-Text;
  too_large = simp outs-Text;
  sign_alone = simp outs-Text;
  plus = simp outs-Text;
  empty = simp outs-Text;
  other_digits = simp outs-Text;
}
