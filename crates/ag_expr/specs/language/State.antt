-- The state of a reader of an expression, and the contracts of the parser's functions. All definitions are
-- this project's.
use Rattle.std.specs.Prelude.{◌≡◌, ◌≢◌, ℕ, Bool, true, false, List, [], cond, Option, Some, None, Result, Ok, Err}
use Rattle.ag_tokens.specs.declared.token.Punctuation.TheVariants as punctuation
use Rattle.ag_tokens.specs.Ending.{Ending}
use Rattle.ag_tokens.specs.Ending as ending
use Rattle.ag_tokens.specs.Parsing.{next_token, is_sign, next}
use Rattle.ag_tokens.specs.PlacedToken.{Input}
use Rattle.ag_tokens.specs.GrammarToken.{GrammarToken, mark}
use Rattle.ag_tokens.specs.GrammarToken as token
use Rattle.ag_expr.specs.declared.fault.ExprFault.{ExprFault}
use Rattle.ag_expr.specs.declared.fault.ExprFault.TheVariants as fault
use Rattle.ag_grammar.specs.declared.syntax.occurrence.Occ.{Occ}
use Rattle.ag_grammar.specs.expressions.Expression.{Expression}
use Rattle.ag_expr.specs.language.Names.{Names}
use Rattle.ag_expr.specs.language.Occurrences.{all_occurrences, listed_with_all, position_of}
use Rattle.ag_expr.specs.language.Expression.{max_levels}
use Rattle.ag_expr.specs.language.Offsets.{answer_of}
use Rattle.ag_expr.specs.language.Reading.{Parser, begins, expr_of, level_fault_of}
use Rattle.ag_expr.specs.language.Until.{Ended, before_semicolon, after_semicolon, first_semicolon, from_semicolon}
use Rattle.ag_expr.specs.language.Until.{read_until_from}

-- ---- the tokens of a statement

-- the ending of a statement's tokens: at the offset of the first `;`, if there is one, else the ending e of the text
abbrev pub ended_by : Ending → Option ℕ → Ending
ended_by e None = e
ended_by e (Some at) = ending.EndsAt at

-- the tokens before the first `;` for a statement, else all of them
abbrev pub up_to : Bool → Input → Input
up_to false i = i
up_to true i = record { left = before_semicolon i.left; ending = ended_by i.ending (first_semicolon i.left) }

-- the other tokens: those from the `;` on for a statement, else none
abbrev pub from_end : Bool → Input → Input
from_end false i = record i { left = [] }
from_end true i = record i { left = from_semicolon i.left }

-- the next token, or `None` if it is a `;` that ends a statement
abbrev pub before_end : Bool → Option GrammarToken → Option GrammarToken
before_end false o = o
before_end true None = None
before_end true (Some t) = cond (is_sign (mark punctuation.Semicolon) t) None (Some t)

-- ---- the state of a reader

-- The distinct occurrences read so far (`listed`), the names in scope, whether the first `;` ends the tokens
-- (`is_statement`), and the remaining input (`tokens`).
pub record State : Type 0 where
  pub listed : List Occ
  pub scope : Names
  pub is_statement : Bool
  pub tokens : Input

-- the state at the beginning of the tokens
abbrev pub start : Bool → Input → State
start is_statement i = record { listed = []; scope = []; is_statement = is_statement; tokens = i }

-- the remaining input of the expression: up to the `;` of a statement, else all of it
unfoldable pub input : State → Input
input s = up_to s.is_statement s.tokens

-- the distinct occurrences: those read so far, followed by the remaining ones
unfoldable pub complete_list : State → List Occ
complete_list s = listed_with_all s.listed (all_occurrences (input s).left)

-- the state after the next token is skipped
abbrev pub after_token : State → State
after_token s = record s { tokens = next s.tokens }

-- Everything but the position within the expression is unchanged: the complete list of occurrences, the names in scope, whether
-- it is a statement, and the input after the expression.
pub record KeepsContext (old new : State) : Type 0 where
  pub occurrences : complete_list new ≡ complete_list old
  pub names : new.scope ≡ old.scope
  pub kind : new.is_statement ≡ old.is_statement
  pub following : from_end new.is_statement new.tokens ≡ from_end old.is_statement old.tokens

-- everything but the names in scope is unchanged
pub record ChangesOnlyScope (old new : State) : Type 0 where
  pub occurrences : complete_list new ≡ complete_list old
  pub tokens : input new ≡ input old
  pub kind : new.is_statement ≡ old.is_statement
  pub following : from_end new.is_statement new.tokens ≡ from_end old.is_statement old.tokens

-- whether the token is an occurrence
abbrev pub is_occurrence : Option GrammarToken → Bool
is_occurrence (Some (token.Occurrence place attr)) = true
is_occurrence _ = false

-- the next token is not an occurrence
abbrev pub NextIsOther : State → Type 0
NextIsOther s = is_occurrence (next_token (input s)) ≡ false

-- the occurrence with this place and name has this index among all of them
abbrev pub HasIndex : State → ℕ → List ℕ → ℕ → Type 0
HasIndex s place attr k = position_of (complete_list s) place attr ≡ Some k

-- the fault for an expression that would begin here with no level left
abbrev pub level_fault : State → ExprFault
level_fault s = level_fault_of (complete_list s) s.scope (input s).ending (input s).left

-- whether an expression can begin with the token; any occurrence can begin one, so `begins` needs no list of occurrences here
abbrev pub begins_here : Names → GrammarToken → Bool
begins_here scope (token.Occurrence place attr) = true
begins_here scope t = begins [] scope t

-- The contract of a function that parses as the specification's parser `read`. After Ok, the result, converted by `view`, is that
-- of `read`. The reader has advanced over the same tokens, and what `KeepsContext` names is unchanged. After a failure other than
-- `NoMemory`, the fault is that of `read`.
abbrev pub ReadsAs : {X Y : Type 0} → (X → Y) → (List Occ → Names → Parser Y) → State → Result X ExprFault → State → Type 0
ReadsAs view read old (Ok x) new =
    (read (complete_list old) old.scope (input old) ≡ Ok (view x, input new)) × KeepsContext old new
ReadsAs view read old (Err e) new = e ≢ fault.NoMemory → read (complete_list old) old.scope (input old) ≡ Err e

-- the same for a result that is not converted
abbrev pub Reads : {X : Type 0} → (List Occ → Names → Parser X) → State → Result X ExprFault → State → Type 0
Reads = ReadsAs (λ x. x)

-- The answer is the result of parsing the remaining tokens to their end, or memory ran out.
abbrev pub IsReadToEnd : State → Result Expression ExprFault → Type 0
IsReadToEnd s answer = answer ≢ Err fault.NoMemory
    → answer_of (complete_list s) (expr_of (complete_list s) max_levels (input s)) ≡ answer

-- After Ok, the result is that of the specification's parser for the tokens up to the first `;`, and the new input is that after
-- the `;`. After a failure other than `NoMemory`, the fault is that of the specification's parser.
abbrev pub IsReadEnded : Input → Result Ended ExprFault → Input → Type 0
IsReadEnded old (Ok x) new = (read_until_from old ≡ Ok x) × (new ≡ record old { left = after_semicolon old.left })
IsReadEnded old (Err e) new = e ≢ fault.NoMemory → read_until_from old ≡ Err e
