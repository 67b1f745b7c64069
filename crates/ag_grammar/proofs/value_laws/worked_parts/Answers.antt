use Rattle.ag_grammar.proofs.Common.{refl, outs-List, outs-Num, outs-Table, outs-Text}
use Rattle.ag_value.proofs.Layers.{spelling-Num, spelling-Text}
use Rattle.ag_value.specs.operations.Arguments.{leftmost}
use Rattle.ag_grammar.proofs.value_laws.worked_parts.Goals as goal

pub returns : goal.returns
unfolding leftmost
returns c = record {
  bytes = simp outs-Text;
  order = simp outs-Text;
  kinds = simp (outs-Num, outs-Text, spelling-Num, spelling-Text);
  below = simp (outs-List, outs-Num);
  following = simp (outs-List, outs-Num);
  first = simp (outs-List, outs-Num);
  absent = simp (outs-Table, outs-Text);
  found = simp (outs-Table, outs-Text);
  sorted = refl;
  again = refl;
}
