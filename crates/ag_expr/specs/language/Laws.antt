-- Statements of the laws of the expression language.
use Rattle.std.specs.Prelude.{◌≡◌, ◌↔◌, List, [], ℕ, Ok, Err}
use Rattle.ag_grammar.specs.declared.syntax.node.Node.{Node}
use Rattle.ag_grammar.specs.declared.syntax.occurrence.Occ.{Occ}
use Rattle.ag_grammar.specs.expressions.Expression.{Expression}
use Rattle.ag_expr.specs.language.Expression.{ReadsAsExpr}
use Rattle.ag_expr.specs.declared.fault.ExprFault.{ExprFault}
use Rattle.ag_tokens.specs.Ending as ending
use Rattle.ag_tokens.specs.PlacedToken.{PlacedToken, Input, tokens}
use Rattle.ag_expr.specs.language.Offsets.{IsReportedFirst}
use Rattle.ag_expr.specs.language.Reading.{expr_of}
use Rattle.ag_expr.specs.language.Syntax.{IsExpr}

-- The reading function of expressions (`expr_of`) returns a tree for all tokens of a text if and only if the syntax
-- relates these tokens to the tree.
abbrev pub ReadingAgrees : Type 0
ReadingAgrees = (listed : List Occ) (levels at : ℕ) (placed : List PlacedToken) (tree : Node)
    → (expr_of listed levels (record { left = placed; ending = ending.EndsAt at }) ≡ Ok
    (tree, record { left = []; ending = ending.EndsAt at })) ↔ IsExpr listed levels (tokens placed) tree

-- If the reading function of expressions fails, its fault is at the first token that cannot be accepted.
abbrev pub RefusesAtTheFirst : Type 0
RefusesAtTheFirst = (listed : List Occ) (levels : ℕ) (i : Input) (f : ExprFault) → expr_of listed levels i ≡ Err f
    → IsReportedFirst listed levels i f

-- A text reads as at most one expression.
abbrev pub OneExpression : Type 0
OneExpression = (text : List ℕ) (one other : Expression) → ReadsAsExpr text one → ReadsAsExpr text other → one ≡ other
