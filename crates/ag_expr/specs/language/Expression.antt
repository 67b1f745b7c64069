-- The texts that read as expressions (this project's language).
use Rattle.std.specs.Prelude.{◌≡◌, ◌⊎◌, ℕ, Bool, true, false, not, ◌||◌, is_some, bytes_eq, codes, List, length, chars}
use Rattle.ag_expr.specs.declared.fault.ExprFault.{ExprFault}
use Rattle.ag_expr.specs.declared.fault.ExprFault.TheVariants as fault
use Rattle.ag_tokens.specs.declared.token.Punctuation.TheVariants as punctuation
use Rattle.ag_tokens.specs.GrammarToken.{GrammarToken}
use Rattle.ag_tokens.specs.GrammarToken as token
use Rattle.ag_grammar.specs.declared.limits.TheConstants.{MAX_EXPR_LEVELS}
use Rattle.ag_grammar.specs.expressions.Expression.{Expression}
use Rattle.ag_tokens.specs.Ending as ending
use Rattle.ag_tokens.specs.PlacedToken.{PlacedToken, tokens}
use Rattle.ag_tokens.specs.Tokens.{Lexes, NoTokenAt, TooLargeAt, TokenAt, EndsAt}
use Rattle.ag_expr.specs.language.Occurrences.{all_occurrences, distinct_occurrences}
use Rattle.ag_expr.specs.language.Names.{call_of, is_reserved}
use Rattle.ag_expr.specs.language.Syntax.{IsExpr}

-- the maximum number of levels of an expression
abbrev pub max_levels : ℕ
max_levels = MAX_EXPR_LEVELS

-- The text reads as the expression, which is a tree and a list of occurrences: the text is separators and
-- longest tokens, with each number and place within its limit; the list has the distinct occurrences among the tokens;
-- and the tokens spell the tree.
pub record ReadsAsExpr (text : List ℕ) (expr : Expression) : Type 0 where
  pub placed : List PlacedToken
  pub lexes : Lexes 0 (chars text) (record { left = placed; ending = ending.EndsAt (length text) })
  pub listed : expr.occurrences ≡ distinct_occurrences (all_occurrences placed)
  pub spells : IsExpr expr.occurrences max_levels (tokens placed) expr.tree

-- the text does not read as an expression
abbrev pub ReadsAsNone : List ℕ → Type 0
ReadsAsNone text = (expr : Expression) → ReadsAsExpr text expr → ⊥

-- a fault means that the text does not read as an expression, unless memory ran out
abbrev pub IsRefused : List ℕ → ExprFault → Type 0
IsRefused text fault.NoMemory = Unit {0}
IsRefused text e = ReadsAsNone text

-- Whether an expression can begin with this name: `let`, `if`, the name of a call, or a name that is not reserved. (It isn't
-- tested whether that name is bound.)
abbrev pub begins_with : List ℕ → Bool
begins_with name =
    not (is_reserved name) || (bytes_eq name (codes "let") || (bytes_eq name (codes "if") || is_some (call_of name)))

-- whether an expression can begin with this token: a number, a text, an occurrence, `(`, `[`, `{`, or a name as in
-- `begins_with`
abbrev pub begins_expression : GrammarToken → Bool
begins_expression (token.Number n) = true
begins_expression (token.Text bytes) = true
begins_expression (token.Name name) = begins_with name
begins_expression (token.Occurrence place attr) = true
begins_expression (token.Punctuation punctuation.Open) = true
begins_expression (token.Punctuation punctuation.OpenList) = true
begins_expression (token.Punctuation punctuation.OpenTable) = true
begins_expression _ = false

-- What a fault states about its offset, if the characters `cs` begin at the offset `from`. X1: no token begins there. X3: the
-- token there has a number or place above its limit. X2: a token is there, with its number or place within its limit, or the text
-- ends there. X4: such a token is there, and an expression can begin with it.
abbrev pub IsFaultFrom : ℕ → List ℕ → ExprFault → Type 0
IsFaultFrom from cs (fault.NoToken at) = NoTokenAt from cs at
IsFaultFrom from cs (fault.NumberTooLarge at) = TooLargeAt from cs at
IsFaultFrom from cs (fault.Unexpected at) = TokenAt from cs at ⊎ EndsAt from cs at
IsFaultFrom from cs (fault.TooDeep at) = (t : TokenAt from cs at) × (begins_expression t.0.token ≡ true)
IsFaultFrom from cs fault.NoMemory = Unit {0}

-- the same for a whole text
abbrev pub IsFaultOf : List ℕ → ExprFault → Type 0
IsFaultOf text e = IsFaultFrom 0 (chars text) e
