-- All faults of the tokens of a grammar's text: what is read after a fault, and from where (this project's). In this file a *part*
-- is a rule, or the declaration of a symbol or of a production.
use Rattle.std.specs.Prelude.{ℕ, zero, suc, nat_le, Bool, true, false, not, cond, ◌&&◌, ◌||◌, List, [], ◌∷◌, length, bytes_eq}
use Rattle.std.specs.Prelude.{Option, Ok, Err, codes}
use Rattle.ag_expr.specs.declared.fault.ExprFault.{ExprFault}
use Rattle.ag_expr.specs.declared.fault.ExprFault.TheVariants as expr
use Rattle.ag_tokens.specs.declared.token.Punctuation.{Punctuation}
use Rattle.ag_tokens.specs.declared.token.Punctuation.TheVariants as punctuation
use Rattle.ag_tokens.specs.GrammarToken.{GrammarToken}
use Rattle.ag_tokens.specs.GrammarToken as token
use Rattle.ag_tokens.specs.Parsing.{◌>>=◌, ◌>>◌, pure, choose, first_token, next_satisfies, sees}
use Rattle.ag_tokens.specs.PlacedToken.{PlacedToken, Input}
use Rattle.ag_text.specs.Meanings.{is_mark, is_word, is_reserved}
use Rattle.ag_text.specs.Reading.{Outcome, Parser, many, expect, is_any, symbol_from, rules_from, production_from, at_end}
use Rattle.ag_text.specs.Reading.{grammar_of}
use Rattle.ag_text.specs.declared.declaration.Declaration.{Declaration}
use Rattle.ag_text.specs.declared.declaration.Declaration.TheVariants as declaration
use Rattle.ag_text.specs.declared.stop.Stop.{Stop}
use Rattle.ag_text.specs.declared.stop.Stop.TheVariants as stop

-- ---- where a part can begin

-- whether a part can end with the token: it is `;`, or this other punctuation
abbrev pub can_end : Punctuation → GrammarToken → Bool
can_end m t = is_mark punctuation.Semicolon t || is_mark m t

-- Whether a part can begin with a token; the arguments are the token before it, the token, and the token after it, if there is
-- one. The declaration of a symbol begins with `symbol`, after a `;` or `}`; that of a production with a name that is not reserved
-- and `=`, after a `;` or `}`. A rule begins with an occurrence and `=`, after a `;` or `{`.
abbrev pub can_begin : GrammarToken → GrammarToken → Option GrammarToken → Bool
can_begin before (token.Name name) after =
    can_end punctuation.CloseTable before
    && (bytes_eq name (codes "symbol") || (not (is_reserved name) && next_satisfies (is_mark punctuation.Equal) after))
can_begin before (token.Occurrence place attr) after =
    can_end punctuation.OpenTable before && next_satisfies (is_mark punctuation.Equal) after
can_begin before _ after = false

-- The tokens from the first one on that has the offset `at` or a later one, and with which a part can begin; no tokens if there is
-- none. `before` is the token before these tokens.
abbrev pub from_part : ℕ → GrammarToken → List PlacedToken → List PlacedToken
from_part at before [] = []
from_part at before (p ∷ ps) =
    cond (nat_le at p.at && can_begin before p.token (first_token ps)) (p ∷ ps) (from_part at p.token ps)

-- the same for tokens of which the first has none before it, and is not looked at
abbrev pub later_part : ℕ → List PlacedToken → List PlacedToken
later_part at [] = []
later_part at (p ∷ ps) = from_part at p.token ps

-- the input from the first part on that comes after the first token and has the offset `at` or a later one; without tokens if there
-- is no such part
abbrev pub next_part : ℕ → Input → Input
next_part at i = record i { left = later_part at i.left }

-- the offset of a fault of an expression (`NoMemory` has none, and no parser of the specification fails with it)
abbrev pub expr_offset : ExprFault → ℕ
expr_offset (expr.NoToken at) = at
expr_offset (expr.Unexpected at) = at
expr_offset (expr.NumberTooLarge at) = at
expr_offset (expr.TooDeep at) = at
expr_offset expr.NoMemory = 0

-- the offset of a fault of the parser
abbrev pub stop_offset : Stop → ℕ
stop_offset (stop.WrongAt at) = at
stop_offset (stop.InExpr f) = expr_offset f
stop_offset stop.NoMemory = 0

-- the input from the next part on, after a fault in the input i
abbrev pub resumed : Stop → Input → Input
resumed s i = next_part (stop_offset s) i

-- ---- what is read from there

-- a declaration: of a symbol if the next token is `symbol`, else of a production
unfoldable pub declaration_from : Parser Declaration
declaration_from =
    choose (is_word (codes "symbol")) (symbol_from >>= λ s. pure (declaration.Symbol s))
    (production_from >>= λ p. pure (declaration.Production p))

-- the rest of a production, from one of its rules on
unfoldable pub rules_end_from : Parser (Unit {0})
rules_end_from = do
  rules_from
  expect punctuation.CloseTable

-- a test: the token is an occurrence
abbrev pub is_occurrence : GrammarToken → Bool
is_occurrence (token.Occurrence place attr) = true
is_occurrence _ = false

-- the rest of a production if a rule comes next, else nothing
unfoldable pub open_rules_from : Parser (Unit {0})
open_rules_from = choose is_occurrence rules_end_from (pure tt)

-- The rest of a text, from a part on: if this is a rule, the rest of its production; and then declarations, of symbols and of
-- productions in any order, up to the end of the text.
unfoldable pub rest_from : Parser (Unit {0})
rest_from = do
  open_rules_from
  many is_any declaration_from []
  at_end

-- ---- the faults

-- the fault of an outcome, and then those that `further` has for it; none if the outcome is no fault
abbrev pub faults_by : {A : Type 0} → Outcome A → (Stop → List Stop) → List Stop
faults_by (Ok x) further = []
faults_by (Err s) further = s ∷ further s

-- The faults of an input that begins with a part: the fault of reading it, and then those of the input from the next part on. An
-- input without tokens has none. There are at most n faults; the number of tokens is enough for n.
unfoldable pub further_faults : ℕ → Input → List Stop
further_faults zero i = []
further_faults (suc n) i =
    cond (sees is_any i) (faults_by (rest_from i) (λ s. further_faults n (resumed s i))) []

-- the faults of the tokens of a text: the fault of reading them as a grammar, and then those of the input from the next part on
abbrev pub all_faults : Input → List Stop
all_faults i = faults_by (grammar_of i) (λ s. further_faults (length i.left) (resumed s i))
