-- Expressions that end at a semicolon (this project's language).
use Rattle.std.specs.Prelude.{◌≡◌, ◌≢◌, ℕ, cond, List, [], ◌∷◌, ◌++◌, drop, Option, Some, None, Result, Ok, Err, ◌⊎◌, chars}
use Rattle.ag_expr.specs.declared.fault.ExprFault.{ExprFault}
use Rattle.ag_expr.specs.declared.fault.ExprFault.TheVariants as fault
use Rattle.ag_grammar.specs.declared.syntax.node.Node.{Node}
use Rattle.ag_grammar.specs.expressions.Expression.{Expression}
use Rattle.ag_tokens.specs.declared.token.Punctuation.TheVariants as punctuation
use Rattle.ag_tokens.specs.Ending.{Ending}
use Rattle.ag_tokens.specs.Ending as ending
use Rattle.ag_expr.specs.language.Expression.{max_levels}
use Rattle.ag_expr.specs.language.Occurrences.{all_occurrences, distinct_occurrences}
use Rattle.ag_tokens.specs.PlacedToken.{PlacedToken, Input, tokens}
use Rattle.ag_expr.specs.language.Offsets.{IsReportedFirst, occurrences_of, read_from}
use Rattle.ag_tokens.specs.Parsing.{is_sign}
use Rattle.ag_expr.specs.language.Reading.{ending_fault}
use Rattle.ag_expr.specs.language.Syntax.{IsExpr}
use Rattle.ag_tokens.specs.GrammarToken.{mark}
use Rattle.ag_tokens.specs.GrammarToken as token
use Rattle.ag_tokens.specs.Tokens.{Lexes}

-- an expression, with the offset of the semicolon after it
abbrev pub Ended : Type 0
Ended = Expression × ℕ

-- a semicolon at an offset
abbrev pub semicolon : ℕ → PlacedToken
semicolon at = record { at = at; token = token.Punctuation punctuation.Semicolon }

-- the offset of the first semicolon among tokens, if there is one
abbrev pub first_semicolon : List PlacedToken → Option ℕ
first_semicolon [] = None
first_semicolon (p ∷ ps) = cond (is_sign (mark punctuation.Semicolon) p.token) (Some p.at) (first_semicolon ps)

-- the tokens before the first semicolon; all of them if there is none
abbrev pub before_semicolon : List PlacedToken → List PlacedToken
before_semicolon [] = []
before_semicolon (p ∷ ps) = cond (is_sign (mark punctuation.Semicolon) p.token) [] (p ∷ before_semicolon ps)

-- the tokens from the first semicolon on; none if there is no semicolon
abbrev pub from_semicolon : List PlacedToken → List PlacedToken
from_semicolon [] = []
from_semicolon (p ∷ ps) = cond (is_sign (mark punctuation.Semicolon) p.token) (p ∷ ps) (from_semicolon ps)

-- the tokens after the first semicolon; none if there is no semicolon
abbrev pub after_semicolon : List PlacedToken → List PlacedToken
after_semicolon [] = []
after_semicolon (p ∷ ps) = cond (is_sign (mark punctuation.Semicolon) p.token) ps (after_semicolon ps)

-- the expression with this offset of the semicolon after it, or the fault
abbrev pub with_offset : ℕ → Result Expression ExprFault → Result Ended ExprFault
with_offset at (Ok x) = Ok (x, at)
with_offset at (Err f) = Err f

-- always a fault: that of the result if it is one, else e
abbrev pub or_fault : ExprFault → Result Expression ExprFault → Result Ended ExprFault
or_fault e (Ok x) = Err e
or_fault e (Err f) = Err f

-- The tokens before the first semicolon are parsed as a text that ends there. Without a semicolon, the fault
-- is that of parsing all tokens or, if they are an expression, that of their ending.
abbrev pub until_by : Option ℕ → Input → Result Ended ExprFault
until_by (Some at) i = with_offset at (read_from (record { left = before_semicolon i.left; ending = ending.EndsAt at }))
until_by None i = or_fault (ending_fault i.ending) (read_from i)

-- the result of parsing the tokens of an input up to the first semicolon
abbrev pub read_until_from : Input → Result Ended ExprFault
read_until_from i = until_by (first_semicolon i.left) i

-- The answer is the result of parsing the tokens of the text from the offset `from` up to the first semicolon,
-- or memory ran out.
abbrev pub IsReadUntil : List ℕ → ℕ → Result Ended ExprFault → Type 0
IsReadUntil text from answer = (i : Input) → Lexes from (chars (drop from text)) i → answer ≢ Err fault.NoMemory
    → read_until_from i ≡ answer

-- From the offset `from` on, the text reads as the expression up to its first semicolon: the tokens before it
-- spell the tree, and the list has the distinct occurrences among them.
pub record ReadsUntil (text : List ℕ) (from : ℕ) (x : Ended) : Type 0 where
  pub placed : List PlacedToken
  pub rest : List PlacedToken
  pub ending : Ending
  pub lexes : Lexes from (chars (drop from text)) (record { left = placed ++ semicolon x.1 ∷ rest; ending = ending })
  pub first : first_semicolon placed ≡ None
  pub listed : x.0.occurrences ≡ distinct_occurrences (all_occurrences placed)
  pub spells : IsExpr x.0.occurrences max_levels (tokens placed) x.0.tree

-- a fault means that no expression followed by a semicolon begins at `from`, unless memory ran out
abbrev pub IsRefusedUntil : List ℕ → ℕ → ExprFault → Type 0
IsRefusedUntil text from e = e ≢ fault.NoMemory → (x : Ended) → ReadsUntil text from x → ⊥

-- The tokens are an expression, and the fault is at the end of the text, where a semicolon is missing.
pub record IsUnended (i : Input) (f : ExprFault) : Type 0 where
  pub at : ℕ
  pub ends : i.ending ≡ ending.EndsAt at
  pub says : f ≡ fault.Unexpected at
  pub tree : Node
  pub spells : IsExpr (occurrences_of i) max_levels (tokens i.left) tree

-- The first argument is the offset of the first semicolon, if there is one. The fault is at the first token that cannot be
-- accepted, where the first semicolon counts as the end of the text. Without a semicolon all tokens count; if they are an
-- expression, the fault is at the end of the text.
abbrev pub IsReportedUntil : Option ℕ → Input → ExprFault → Type 0
IsReportedUntil (Some at) i f =
    IsReportedFirst (distinct_occurrences (all_occurrences (before_semicolon i.left))) max_levels
    (record { left = before_semicolon i.left; ending = ending.EndsAt at }) f
IsReportedUntil None i f = IsReportedFirst (occurrences_of i) max_levels i f ⊎ IsUnended i f

-- A fault other than `NoMemory` of parsing the text from the offset `from` on is at the offset that `IsReportedUntil` states.
abbrev pub IsFirstUntil : List ℕ → ℕ → ExprFault → Type 0
IsFirstUntil text from f = (i : Input) → Lexes from (chars (drop from text)) i → f ≢ fault.NoMemory
    → IsReportedUntil (first_semicolon i.left) i f
