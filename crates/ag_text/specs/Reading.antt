-- The reading function of grammars: their parser as a plain function on tokens with offsets. It returns a result
-- and the remaining input, or a fault.
use Rattle.std.specs.Prelude.{ℕ, Bool, true, false, not, List, [], ◌∷◌, Option, Result, Ok, Err, codes}
use Rattle.ag_expr.specs.declared.fault.ExprFault.{ExprFault}
use Rattle.ag_grammar.specs.expressions.Expression.{Expression}
use Rattle.ag_tokens.specs.declared.token.Punctuation.{Punctuation}
use Rattle.ag_tokens.specs.declared.token.Punctuation.TheVariants as punctuation
use Rattle.ag_tokens.specs.PlacedToken.{Input}
use Rattle.ag_tokens.specs.Parsing as parsing
use Rattle.ag_tokens.specs.Parsing.{◌>>=◌, ◌>>◌, pure, choose, further_from, end_from, offset}
use Rattle.ag_expr.specs.language.Until.{Ended, after_semicolon, read_until_from}
use Rattle.ag_tokens.specs.GrammarToken.{GrammarToken}
use Rattle.ag_grammar.specs.declared.raw.Named.{Named}
use Rattle.ag_grammar.specs.declared.raw.RawGrammar.{RawGrammar}
use Rattle.ag_grammar.specs.declared.raw.RawItem.{RawItem}
use Rattle.ag_grammar.specs.declared.raw.RawProduction.{RawProduction}
use Rattle.ag_grammar.specs.declared.raw.RawRule.{RawRule}
use Rattle.ag_grammar.specs.declared.raw.RawSymbol.{RawSymbol}
use Rattle.ag_text.specs.declared.stop.Stop.{Stop}
use Rattle.ag_text.specs.declared.stop.Stop.TheVariants.{WrongAt, InExpr}
use Rattle.ag_text.specs.Meanings.{is_mark, is_word, mark_in, word_in, name_in, item_in, target_in}

-- ---- parsers

-- outcomes of parsers, and parsers, with the faults of the parser of grammars
abbrev pub Outcome : Type 0 → Type 0
Outcome = parsing.Outcome Stop

abbrev pub Parser : Type 0 → Type 0
Parser = parsing.Parser Stop

-- the fault if the next token cannot be accepted or is missing: its offset, or the offset where the tokens end
abbrev pub refusal : Input → Stop
refusal i = WrongAt (offset i)

-- reads one token, and returns its meaning at its offset; fails with `refusal` without a token, or if it has no meaning
abbrev pub one_from : {A : Type 0} → (ℕ → GrammarToken → Option A) → Parser A
one_from = parsing.one_from refusal

-- `many begins part found` reads any number of parts with the parser `part`, as long as the next token passes the test `begins`.
-- It returns the list `found`, followed by these parts. (`false` means that `further_from` may read more than one part.)
abbrev pub many : {A : Type 0} → (GrammarToken → Bool) → Parser A → List A → Parser (List A)
many = further_from false

-- ---- the expression of a rule

-- the outcome for the input i, whose expression up to the first `;` has this result; the remaining input begins after the `;`
abbrev pub ended : Input → Result Ended ExprFault → Outcome Expression
ended i (Ok x) = Ok (x.0, record i { left = after_semicolon i.left })
ended i (Err f) = Err (InExpr f)

-- an expression and the `;` after it
unfoldable pub ended_expr_from : Parser Expression
ended_expr_from = λ i. ended i (read_until_from i)

-- ---- grammars

-- If `Syntax.antt` has a language with the name of a parser, the parser parses it: `symbol_from` parses `IsSymbol`. The language
-- of `next_name_from` is `IsFurther`.

-- reads this punctuation, or else fails with `refusal`; `expect_word` is the same for a reserved name
abbrev pub expect : Punctuation → Parser (Unit {0})
expect m = one_from (mark_in m)

abbrev pub expect_word : List ℕ → Parser (Unit {0})
expect_word w = one_from (word_in w)

-- a comma and a name
unfoldable pub next_name_from : Parser Named
next_name_from = do
  expect punctuation.Comma
  one_from name_in

-- names separated by commas
unfoldable pub names_from : Parser (List Named)
names_from = do
  first ← one_from name_in
  many (is_mark punctuation.Comma) next_name_from (first ∷ [])

-- the word `w` (`syn` or `inh`) and the names after it
unfoldable pub section_from : List ℕ → Parser (List Named)
section_from w = do
  expect_word w
  names_from

-- what `section_from` reads, or no names if the next token is not the word `w`
unfoldable pub attributes_from : List ℕ → Parser (List Named)
attributes_from w = choose (is_word w) (section_from w) (pure [])

unfoldable pub symbol_from : Parser RawSymbol
symbol_from = do
  expect_word (codes "symbol")
  name ← one_from name_in
  syn ← attributes_from (codes "syn")
  inh ← attributes_from (codes "inh")
  expect punctuation.Semicolon
  pure (record { name = name; syn = syn; inh = inh })

-- the declarations of symbols, as long as the next token is `symbol`
abbrev pub symbols_from : Parser (List RawSymbol)
symbols_from = many (is_word (codes "symbol")) symbol_from []

unfoldable pub rule_from : Parser RawRule
rule_from = do
  target ← one_from target_in
  expect punctuation.Equal
  expr ← ended_expr_from
  pure (record { target = target; expr = expr })

-- a test: the token is not this punctuation
abbrev pub is_other_than : Punctuation → GrammarToken → Bool
is_other_than m t = not (is_mark m t)

-- a test that every token passes
abbrev pub is_any : GrammarToken → Bool
is_any t = true

-- the items before a `{`
abbrev pub items_from : Parser (List RawItem)
items_from = many (is_other_than punctuation.OpenTable) (one_from item_in) []

-- the rules before a `}`
abbrev pub rules_from : Parser (List RawRule)
rules_from = many (is_other_than punctuation.CloseTable) rule_from []

unfoldable pub production_from : Parser RawProduction
production_from = do
  left ← one_from name_in
  expect punctuation.Equal
  items ← items_from
  expect punctuation.OpenTable
  rules ← rules_from
  expect punctuation.CloseTable
  pure (record { left = left; items = items; rules = rules })

-- the productions before the end of the tokens
abbrev pub productions_from : Parser (List RawProduction)
productions_from = many is_any production_from []

unfoldable pub grammar_from : Parser RawGrammar
grammar_from = do
  expect_word (codes "start")
  start ← one_from name_in
  expect punctuation.Semicolon
  symbols ← symbols_from
  productions ← productions_from
  pure (record { start = start; symbols = symbols; productions = productions })

-- ---- a whole text

-- reads nothing if the text ends here, and else fails with `refusal`
abbrev pub at_end : Parser (Unit {0})
at_end = end_from refusal

-- a grammar, and then the end of the text
unfoldable pub grammar_of : Parser RawGrammar
grammar_of = do
  g ← grammar_from
  at_end
  pure g
