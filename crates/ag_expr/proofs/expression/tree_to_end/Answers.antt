use Rattle.ag_expr.proofs.Common.{◌≡◌, ◌∙◌, true, [], length, Err, refl, sym, subst, IfErr, is_below, IsReadToEnd, complete_list}
use Rattle.ag_expr.proofs.language.Agree.{expr_exact}
use Rattle.ag_expr.proofs.language.Below.{expr_below}
use Rattle.ag_expr.proofs.language.States.{all_at_end}
use Rattle.ag_expr.proofs.language.Texts.{passed_on, refused_within, refused_after, read_all, unnamed}
use Rattle.ag_expr.proofs.expression.tree_to_end.Goals as goal

pub returns-in_err-tree-clause-refused : goal.returns-in_err-tree-clause-refused
returns-in_err-tree-clause-refused c =
    let reader = c.args.reader.now in
    passed_on (λ r. IfErr r (λ e. IsReadToEnd reader (Err e))) _ _ c.from_residual.ensures.1
    (refused_within reader _ _ refl (λ memory. unnamed reader c.requires _ (c.in_err-tree.ensures memory)))

pub returns-then-not-is_at_end-clause-refused : goal.returns-then-not-is_at_end-clause-refused
returns-then-not-is_at_end-clause-refused c =
    refused_after c.args.reader.now (Err _) c.refusal.result _ _ refl
    (unnamed c.args.reader.now c.requires _ c.in_ok-tree.ensures.0) (sym c.if-not-is_at_end.ensures) c.refusal.ensures

pub returns-clause-read : goal.returns-clause-read
returns-clause-read c =
    let ends = sym c.if-not-is_at_end.ensures in
    read_all c.args.reader.now _ _ _ (unnamed c.args.reader.now c.requires _ c.in_ok-tree.ensures.0) ends
    (sym (all_at_end _ ends) ∙ c.in_ok-tree.ensures.1.occurrences)

pub returns-clause-below : goal.returns-clause-below
returns-clause-below c =
    let all = complete_list c.args.reader.now in
    let listed = sym (all_at_end _ (sym c.if-not-is_at_end.ensures)) ∙ c.in_ok-tree.ensures.1.occurrences in
    let read = unnamed c.args.reader.now c.requires _ c.in_ok-tree.ensures.0 in
    subst (λ os. is_below (length os) c.in_ok-tree.tree ≡ true) (sym listed)
    (expr_below all 64 _ _ ((expr_exact all 64 []).sound _ _ _ read).2)
