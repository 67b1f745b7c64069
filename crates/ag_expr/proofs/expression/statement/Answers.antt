use Rattle.ag_expr.proofs.Common.{◌∙◌, [], Err, refl, sym, IfErr, IsReadEnded}
use Rattle.ag_expr.proofs.language.Agree.{expr_exact}
use Rattle.ag_expr.proofs.language.Below.{expr_below}
use Rattle.ag_expr.proofs.language.Texts.{passed_on}
use Rattle.ag_expr.proofs.language.Until.{all_of, ended_of, refused_of, refused_within}
use Rattle.ag_expr.proofs.expression.statement.Goals as goal

pub returns-in_err-tree-clause-refused : goal.returns-in_err-tree-clause-refused
returns-in_err-tree-clause-refused c =
    let i = c.args.reader.now.tokens in
    passed_on (λ r. IfErr r (λ e. IsReadEnded i (Err e) c.expression.new.self.tokens)) _ _ c.from_residual.ensures.1
    (λ memory. refused_within i _ (rw c.requires at (c.in_err-tree.ensures memory)))

pub returns-then-not-sees_semicolon-clause-refused : goal.returns-then-not-sees_semicolon-clause-refused
returns-then-not-sees_semicolon-clause-refused c memory =
    let read = rw c.requires at c.in_ok-tree.ensures in
    cc (refused_of c.args.reader.now.tokens _ _ read.0 read.1 (sym c.if-not-sees_semicolon.ensures))

pub returns-clause-read : goal.returns-clause-read
returns-clause-read c =
    let read = rw c.requires at c.in_ok-tree.ensures in
    let ends = sym c.if-not-sees_semicolon.ensures in
    let both = ended_of c.args.reader.now.tokens _ _ read.0 read.1 ends in
    (both.0 ∙ rw (all_of c.args.reader.now.tokens _ _ read.0 read.1 ends) refl, both.1)

pub returns-clause-below : goal.returns-clause-below
returns-clause-below c =
    let read = rw c.requires at c.in_ok-tree.ensures in
    let listed = all_of c.args.reader.now.tokens _ _ read.0 read.1 (cc) in
    rw listed
    (expr_below _ 64 _ _ ((expr_exact _ 64 []).sound _ _ _ read.0).2)
