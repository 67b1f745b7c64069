-- The syntax of grammars over tokens with offsets (this project's grammar of grammars).
use Rattle.std.specs.Prelude.{◌≡◌, ℕ, false, List, [], ◌∷◌, Option, None, codes}
use Rattle.ag_grammar.specs.expressions.Expression.{Expression}
use Rattle.ag_tokens.specs.declared.token.Punctuation.{Punctuation}
use Rattle.ag_tokens.specs.declared.token.Punctuation.TheVariants as punctuation
use Rattle.ag_expr.specs.language.Expression.{max_levels}
use Rattle.ag_expr.specs.language.Occurrences.{all_occurrences, distinct_occurrences}
use Rattle.ag_tokens.specs.PlacedToken.{PlacedToken, tokens}
use Rattle.ag_expr.specs.language.Syntax.{IsExpr}
use Rattle.ag_expr.specs.language.Until.{first_semicolon}
use Rattle.ag_grammar.specs.declared.raw.Named.{Named}
use Rattle.ag_grammar.specs.declared.raw.RawGrammar.{RawGrammar}
use Rattle.ag_grammar.specs.declared.raw.RawProduction.{RawProduction}
use Rattle.ag_grammar.specs.declared.raw.RawRule.{RawRule}
use Rattle.ag_grammar.specs.declared.raw.RawSymbol.{RawSymbol}
use Rattle.ag_tokens.specs.GrammarToken.{GrammarToken}
use Rattle.ag_tokens.specs.Languages as languages
use Rattle.ag_tokens.specs.Languages.{◌>>=◌, ◌>>◌, gives, ◌or◌, Many, further}
use Rattle.ag_text.specs.Meanings.{mark_in, word_in, name_in, item_in, target_in}

-- one token with its meaning; `sign` is the meaning of a token at an offset, if it has one
abbrev pub one : {A : Type 0} → (ℕ → GrammarToken → Option A) → List PlacedToken → A → Type 0
one sign = languages.one (λ p. sign p.at p.token)

-- one token, which is this punctuation
abbrev pub mark : Punctuation → List PlacedToken → Unit {0} → Type 0
mark m = one (mark_in m)

-- one token, which is this name
abbrev pub word : List ℕ → List PlacedToken → Unit {0} → Type 0
word w = one (word_in w)

-- `, name`
abbrev pub IsFurther : List PlacedToken → Named → Type 0
IsFurther = do
  mark punctuation.Comma
  one name_in

-- `name { "," name }`
abbrev pub IsNames : List PlacedToken → List Named → Type 0
IsNames = do
  first ← one name_in
  further false (first ∷ []) IsFurther

-- the word `w` (`syn` or `inh`) and the names after it
abbrev pub IsSection : List ℕ → List PlacedToken → List Named → Type 0
IsSection w = do
  word w
  IsNames

-- such a section, or no token, which means no names
abbrev pub IsAttributes : List ℕ → List PlacedToken → List Named → Type 0
IsAttributes w = IsSection w or gives []

-- `"symbol" name [ "syn" names ] [ "inh" names ] ";"`
abbrev pub IsSymbol : List PlacedToken → RawSymbol → Type 0
IsSymbol = do
  word (codes "symbol")
  name ← one name_in
  syn ← IsAttributes (codes "syn")
  inh ← IsAttributes (codes "inh")
  mark punctuation.Semicolon
  gives (record { name = name; syn = syn; inh = inh })

-- The tokens are an expression of at most 64 levels, with its tree and the distinct occurrences among these tokens. They contain
-- no `;`.
pub record IsOwnExpr (ps : List PlacedToken) (expr : Expression) : Type 0 where
  pub free : first_semicolon ps ≡ None
  pub listed : expr.occurrences ≡ distinct_occurrences (all_occurrences ps)
  pub spells : IsExpr expr.occurrences max_levels (tokens ps) expr.tree

-- `expr ";"`
abbrev pub IsEndedExpr : List PlacedToken → Expression → Type 0
IsEndedExpr = do
  expr ← IsOwnExpr
  mark punctuation.Semicolon
  gives expr

-- `occurrence "=" expr ";"`
abbrev pub IsRule : List PlacedToken → RawRule → Type 0
IsRule = do
  target ← one target_in
  mark punctuation.Equal
  expr ← IsEndedExpr
  gives (record { target = target; expr = expr })

-- `name "=" { item } "{" { rule } "}"`
abbrev pub IsProduction : List PlacedToken → RawProduction → Type 0
IsProduction = do
  left ← one name_in
  mark punctuation.Equal
  items ← Many (one item_in)
  mark punctuation.OpenTable
  rules ← Many IsRule
  mark punctuation.CloseTable
  gives (record { left = left; items = items; rules = rules })

-- `"start" name ";" { symbol } { production }`
unfoldable pub IsGrammar : List PlacedToken → RawGrammar → Type 0
IsGrammar = do
  word (codes "start")
  start ← one name_in
  mark punctuation.Semicolon
  symbols ← Many IsSymbol
  productions ← Many IsProduction
  gives (record { start = start; symbols = symbols; productions = productions })
