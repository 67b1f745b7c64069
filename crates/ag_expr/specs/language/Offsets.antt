-- The first token that cannot be accepted (this project's language).
use Rattle.std.specs.Prelude.{◌≡◌, ◌≢◌, ℕ, List, [], ◌∷◌, ◌++◌, Result, Ok, Err, ◌⊎◌, true, drop, chars}
use Rattle.ag_expr.specs.declared.fault.ExprFault.{ExprFault}
use Rattle.ag_expr.specs.declared.fault.ExprFault.TheVariants as fault
use Rattle.ag_grammar.specs.declared.syntax.node.Node.{Node}
use Rattle.ag_grammar.specs.declared.syntax.occurrence.Occ.{Occ}
use Rattle.ag_grammar.specs.expressions.Expression.{Expression}
use Rattle.ag_tokens.specs.Ending.{Ending}
use Rattle.ag_tokens.specs.Ending as ending
use Rattle.ag_expr.specs.language.Expression.{begins_expression, max_levels}
use Rattle.ag_expr.specs.language.Occurrences.{all_occurrences, distinct_occurrences}
use Rattle.ag_tokens.specs.PlacedToken.{PlacedToken, Input, tokens}
use Rattle.ag_expr.specs.language.Reading.{Outcome, refusal_of, expr_of}
use Rattle.ag_expr.specs.language.Syntax.{IsExpr}
use Rattle.ag_tokens.specs.GrammarToken.{GrammarToken}
use Rattle.ag_tokens.specs.Tokens.{Lexes}

-- the tokens are a prefix of an expression of some number of levels, whose occurrences are all in `listed`
abbrev pub Begins : List Occ → List GrammarToken → Type 0
Begins listed ts = (levels : ℕ) × (more : List GrammarToken) × (e : Node) × IsExpr listed levels (ts ++ more) e

-- The tokens `ts` and the remaining ones are those of a text. If there is a next token, no expression, for any number of levels,
-- begins with `ts` and this token. If the text ends here, `ts` are not an expression. At any other ending nothing is claimed.
abbrev pub NoneGoesOn : List Occ → List GrammarToken → Ending → List PlacedToken → Type 0
NoneGoesOn listed ts e [] = (at : ℕ) → e ≡ ending.EndsAt at → (levels : ℕ) (tree : Node) → IsExpr listed levels ts tree → ⊥
NoneGoesOn listed ts e (p ∷ ps) = Begins listed (ts ++ p.token ∷ []) → ⊥

-- The fault is at the first token of `rest`, or at the ending if `rest` is empty. The tokens before it are a prefix of
-- an expression. No expression continues with this token; if the text ends there, the tokens before are not an expression.
pub record IsFirstWrong (listed : List Occ) (i : Input) (f : ExprFault) : Type 0 where
  pub before : List PlacedToken
  pub rest : List PlacedToken
  pub cut : i.left ≡ before ++ rest
  pub start : Begins listed (tokens before)
  pub says : f ≡ refusal_of i.ending rest
  pub none : NoneGoesOn listed (tokens before) i.ending rest

-- The fault is at a token with which an expression can begin. The tokens up to and including this token are a prefix of some
-- expression, but not of an expression of at most `levels` levels.
pub record IsTooDeep (listed : List Occ) (levels : ℕ) (i : Input) (f : ExprFault) : Type 0 where
  pub before : List PlacedToken
  pub first : PlacedToken
  pub rest : List PlacedToken
  pub cut : i.left ≡ before ++ first ∷ rest
  pub says : f ≡ fault.TooDeep first.at
  pub begins_one : begins_expression first.token ≡ true
  pub start : Begins listed (tokens before ++ first.token ∷ [])
  pub none : (more : List GrammarToken) (tree : Node) → IsExpr listed levels ((tokens before ++ first.token ∷ []) ++ more) tree
      → ⊥

-- the fault is at the first token that cannot be accepted
abbrev pub IsReportedFirst : List Occ → ℕ → Input → ExprFault → Type 0
IsReportedFirst listed levels i f = IsFirstWrong listed i f ⊎ IsTooDeep listed levels i f

-- the outcome of a parser as a result: a tree and the distinct occurrences, or a fault
abbrev pub answer_of : List Occ → Outcome Node → Result Expression ExprFault
answer_of listed (Ok p) = Ok (record { tree = p.0; occurrences = listed })
answer_of listed (Err f) = Err f

-- the distinct occurrences among the tokens
abbrev pub occurrences_of : Input → List Occ
occurrences_of i = distinct_occurrences (all_occurrences i.left)

-- the result of parsing the tokens of a text: a tree and the distinct occurrences among them, or a fault
abbrev pub read_from : Input → Result Expression ExprFault
read_from i = answer_of (occurrences_of i) (expr_of (occurrences_of i) max_levels i)

-- The answer is the result of parsing the tokens of the text from the offset `from` on, or memory ran out.
abbrev pub IsReadFrom : List ℕ → ℕ → Result Expression ExprFault → Type 0
IsReadFrom text from answer = (i : Input) → Lexes from (chars (drop from text)) i → answer ≢ Err fault.NoMemory
    → read_from i ≡ answer

-- the same for a whole text
abbrev pub IsRead : List ℕ → Result Expression ExprFault → Type 0
IsRead text = IsReadFrom text 0

-- A fault other than `NoMemory` is at the first token of the text that cannot be accepted.
abbrev pub IsFirstOf : List ℕ → ExprFault → Type 0
IsFirstOf text f = (i : Input) → Lexes 0 (chars text) i → f ≢ fault.NoMemory → IsReportedFirst (occurrences_of i) max_levels i f
