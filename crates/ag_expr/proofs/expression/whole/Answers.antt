use Rattle.ag_expr.proofs.Common.{IsReadToEnd}
use Rattle.ag_expr.proofs.language.Texts.{passed_on}
use Rattle.ag_expr.proofs.expression.whole.Goals as goal

pub returns-in_err-tree : goal.returns-in_err-tree
returns-in_err-tree c = passed_on (IsReadToEnd c.args.reader) _ _ c.from_residual.ensures.1 c.in_err-tree.ensures.refused

pub returns : goal.returns
returns c = rw (c.new.ensures, c.into_parts-occurrences.ensures.listed) c.in_ok-tree.ensures.read

pub new-requires-clause-below : goal.new-requires-clause-below
new-requires-clause-below c =
    rw c.into_parts-occurrences.ensures.listed c.in_ok-tree.ensures.below
