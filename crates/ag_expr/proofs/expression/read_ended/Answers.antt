use Rattle.ag_expr.proofs.Common.{◌∙◌, true, refl, ap, IsReadEnded, start}
use Rattle.ag_expr.proofs.language.Texts.{passed_on}
use Rattle.ag_expr.proofs.expression.read_ended.Goals as goal

pub returns-in_err-tree : goal.returns-in_err-tree
returns-in_err-tree c =
    let prefix = c.new-reader.ensures ∙ ap (start true) c.replace-tokens.ensures.value in
    passed_on (λ r. IsReadEnded c.args.cursor.now r c.replace-tokens.new.dest) _ _ c.from_residual.ensures.1
    (rw prefix at c.in_err-tree.ensures.refused)

pub new-requires-2-clause-below : goal.new-requires-2-clause-below
new-requires-2-clause-below c =
    rw c.into_parts-occurrences.ensures.listed c.in_ok-tree.ensures.below

pub returns : goal.returns
returns c =
    let prefix = c.new-reader.ensures ∙ ap (start true) c.replace-tokens.ensures.value in
    let read = rw prefix at c.in_ok-tree.ensures.read in
    let parts = c.into_parts-occurrences.ensures in (
      read.0 ∙ rw (c.new-2.ensures, c.offset-at.ensures, parts.tokens, parts.listed) refl,
      cc,
    )
