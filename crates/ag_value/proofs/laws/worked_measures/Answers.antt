use Rattle.std.proofs.Common.{pos, refl}
use Rattle.std.specs.Char.{encode_utf8}
use Rattle.std.specs.Fmt.{digits}
use Rattle.std.specs.Str.{chars}
use Rattle.ag_value.specs.declared.value.ErrorCode.TheVariants as code
use Rattle.ag_value.proofs.Layers.{depth-List, depth-Num, depth-Table, depth-Text, shown-List, shown-Num, shown-Table, shown-Text}
use Rattle.ag_value.proofs.Layers.{weight-Fault, weight-List, weight-Num, weight-Table, weight-Text}
use Rattle.ag_value.proofs.laws.worked_measures.Goals as goal

pub returns-clause-number_weight : goal.returns-clause-number_weight
returns-clause-number_weight c = weight-Num (pos 14)

pub returns-clause-number_depth : goal.returns-clause-number_depth
returns-clause-number_depth c = depth-Num (pos 14)

pub returns-clause-error_weight : goal.returns-clause-error_weight
returns-clause-error_weight c = weight-Fault code.Divide

pub returns-clause-table_weight : goal.returns-clause-table_weight
returns-clause-table_weight c = rw (weight-Table, weight-List, weight-Num, weight-Text) refl

pub returns-clause-table_depth : goal.returns-clause-table_depth
returns-clause-table_depth c = rw (depth-Table, depth-List, depth-Num, depth-Text) refl

pub returns-clause-table_shown : goal.returns-clause-table_shown
unfolding chars digits encode_utf8
returns-clause-table_shown c = rw (shown-Table, shown-List, shown-Num, shown-Text) refl
