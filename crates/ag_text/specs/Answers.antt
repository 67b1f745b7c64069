-- The result of parsing a text as a grammar (this project's).
use Rattle.std.specs.Prelude.{◌≡◌, ◌≢◌, ◌+◌, ◌==◌, ℕ, nat_lt, cond, List, [], ◌∷◌, length, map, take, Result, Ok, Err, chars}
use Rattle.std.specs.List.{count_by}
use Rattle.std.specs.Str.{is_utf8}
use Rattle.std.specs.Str.Lossy.{utf8_valid_len}
use Rattle.ag_expr.specs.declared.fault.ExprFault.{ExprFault}
use Rattle.ag_expr.specs.declared.fault.ExprFault.TheVariants as expr
use Rattle.ag_tokens.specs.PlacedToken.{Input}
use Rattle.ag_tokens.specs.Tokens.{Lexes}
use Rattle.ag_text.specs.declared.fault.TextFault.{TextFault}
use Rattle.ag_text.specs.declared.fault.TextFault.TheVariants as fault
use Rattle.ag_grammar.specs.declared.raw.RawGrammar.{RawGrammar}
use Rattle.ag_text.specs.declared.stop.Stop.{Stop}
use Rattle.ag_text.specs.declared.stop.Stop.TheVariants as stop
use Rattle.ag_grammar.specs.grammars.Accepted.{max_text_bytes}
use Rattle.ag_text.specs.Grammar.{ReadsAsNone}
use Rattle.ag_text.specs.Offsets.{IsFirstWrong}
use Rattle.ag_text.specs.Reading.{Outcome, grammar_of}
use Rattle.ag_text.specs.Resuming.{all_faults}

-- the number of line feeds (bytes 10)
abbrev pub line_feeds : List ℕ → ℕ
line_feeds bytes = count_by (λ c. c == 10) bytes

-- the number of the line at an offset in bytes, from 1: one more than the number of line feeds before it
abbrev pub line_of : List ℕ → ℕ → ℕ
line_of text at = 1 + line_feeds (take at text)

-- the fault of a text for a fault of an expression: G3, or `NoMemory` for `NoMemory`
abbrev pub expr_fault : ExprFault → TextFault
expr_fault expr.NoMemory = fault.NoMemory
expr_fault f = fault.Expr f

-- the fault of a text for a fault of the parser: adds the line of the offset in the text
abbrev pub fault_of : List ℕ → Stop → TextFault
fault_of text (stop.WrongAt at) = fault.Unexpected (line_of text at) at
fault_of text (stop.InExpr f) = expr_fault f
fault_of text stop.NoMemory = fault.NoMemory

-- the result for a text, by the outcome of the parser: the grammar without the remaining input, or the fault of the text
abbrev pub answer_of : List ℕ → Outcome RawGrammar → Result RawGrammar TextFault
answer_of text (Ok p) = Ok p.0
answer_of text (Err s) = Err (fault_of text s)

-- The result of parsing a text with these tokens: G4 if the text is too long, else G1 if it is not UTF-8, else the result for the
-- tokens. `utf8_valid_len` is the length of the longest prefix that is UTF-8.
abbrev pub read_text : List ℕ → Input → Result RawGrammar TextFault
read_text text i =
    cond (nat_lt max_text_bytes (length text)) (Err fault.TooLong)
    (cond (is_utf8 text) (answer_of text (grammar_of i)) (Err (fault.BadUtf8 (utf8_valid_len text))))

-- The answer is the result of parsing the text, whose tokens and ending are i; or memory ran out. A text that is too long or not
-- UTF-8 has such an i too, which `read_text` doesn't use.
abbrev pub IsRead : List ℕ → Result RawGrammar TextFault → Type 0
IsRead text answer = (i : Input) → Lexes 0 (chars text) i → answer ≢ Err fault.NoMemory → read_text text i ≡ answer

-- the answer is the result of parsing a text that is short enough and UTF-8, or memory ran out
abbrev pub IsReadText : List ℕ → Result RawGrammar TextFault → Type 0
IsReadText text answer = (i : Input) → Lexes 0 (chars text) i → answer ≢ Err fault.NoMemory
    → answer_of text (grammar_of i) ≡ answer

-- The offset of a G2 is that of the first token that cannot be accepted, or where the tokens end (`IsFirstWrong`), and its line
-- is the line at this offset. Nothing is claimed of other faults.
abbrev pub IsFirstOf : List ℕ → TextFault → Type 0
IsFirstOf text (fault.Unexpected line at) = (i : Input) → Lexes 0 (chars text) i → IsFirstWrong i at × (line ≡ line_of text at)
IsFirstOf text f = Unit {0}

-- a fault means that the text does not read as a grammar, unless memory ran out
abbrev pub IsRefused : List ℕ → TextFault → Type 0
IsRefused text fault.NoMemory = Unit {0}
IsRefused text f = ReadsAsNone text

-- All faults of a text with these tokens: G4 alone if the text is too long, else G1 alone if it is not UTF-8, else those of the
-- tokens.
abbrev pub faults_in : List ℕ → Input → List TextFault
faults_in text i =
    cond (nat_lt max_text_bytes (length text)) (fault.TooLong ∷ [])
    (cond (is_utf8 text) (map (fault_of text) (all_faults i)) (fault.BadUtf8 (utf8_valid_len text) ∷ []))

-- The list has all faults of the text, whose tokens and ending are i. A text that is too long or not UTF-8 has such an i too,
-- which `faults_in` doesn't use.
abbrev pub AreFaultsOf : List ℕ → List TextFault → Type 0
AreFaultsOf text faults = (i : Input) → Lexes 0 (chars text) i → faults_in text i ≡ faults

-- the list has all faults of a text that is short enough and UTF-8
abbrev pub AreCharacterFaults : List ℕ → List TextFault → Type 0
AreCharacterFaults text faults = (i : Input) → Lexes 0 (chars text) i → map (fault_of text) (all_faults i) ≡ faults
