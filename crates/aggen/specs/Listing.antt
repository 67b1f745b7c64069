-- The meaning of printing the passes or the code of the plan of a grammar's text. `old` and `new` are the output's bytes before
-- and after the call, if a contract can name them. All of this is this project's.
use Rattle.std.specs.Prelude.{ℕ, List, Option}
use Rattle.std.specs.Io.KnownBytes.{Appends}
use Rattle.ag_grammar.specs.grammars.AttributeGrammar.{Grammar}
use Rattle.agoutput.specs.Listings.{AppendsPlan, AppendsPlanBeginning, code_text}
use Rattle.agoutput.specs.Writing.{AppendsBeginning}
use Rattle.passcode.specs.Rows.{Lists}
use Rattle.aggen.specs.Building.{IsConflictOf, IsLeastPlan, IsStuckOf}
use Rattle.aggen.specs.Checking.{IsGrammarOf, IsNormalFaultOf, IsTextFaultOf}
use Rattle.ag_fault.specs.declared.fault.Fault.{Fault}
use Rattle.ag_fault.specs.declared.fault.Fault.TheVariants as fault

-- a property P holds of the grammar of a text and of the grammar's least plan (`rows` are the passes, `code` the instructions)
pub record HoldsOfPlan (text : List ℕ) (P : Grammar → List (List ℕ) → Lists → Type 0) : Type 0 where
  pub grammar : Grammar
  pub rows : List (List ℕ)
  pub code : Lists
  pub is : IsGrammarOf text grammar
  pub plan : IsLeastPlan grammar rows code
  pub holds : P grammar rows code

-- the lines of the passes of the text's least plan were written; for `BeginsPlan`, a prefix of them
abbrev pub PrintsPlan : List ℕ → Option (List ℕ) → Option (List ℕ) → Type 0
PrintsPlan text old new = HoldsOfPlan text (λ g rows code. AppendsPlan g rows old new)

abbrev pub BeginsPlan : List ℕ → Option (List ℕ) → Option (List ℕ) → Type 0
BeginsPlan text old new = HoldsOfPlan text (λ g rows code. AppendsPlanBeginning g rows old new)

-- the lines of the code of the text's least plan were written; for `BeginsCode`, a prefix of them
abbrev pub PrintsCode : List ℕ → Option (List ℕ) → Option (List ℕ) → Type 0
PrintsCode text old new = HoldsOfPlan text (λ g rows code. Appends old new (code_text g code))

abbrev pub BeginsCode : List ℕ → Option (List ℕ) → Option (List ℕ) → Type 0
BeginsCode text old new = HoldsOfPlan text (λ g rows code. AppendsBeginning old new (code_text g code))

-- the meaning of a fault of `print_plan` and `print_code` but O2: G, N, L and A are true of the text; NoMemory has no meaning; no
-- other fault is possible
abbrev pub IsTranslatorFault : List ℕ → Fault → Type 0
IsTranslatorFault text (fault.Text f) = IsTextFaultOf text f
IsTranslatorFault text (fault.Normal f) = IsNormalFaultOf text f
IsTranslatorFault text (fault.Table f) = IsConflictOf text f
IsTranslatorFault text (fault.Assign f) = IsStuckOf text f
IsTranslatorFault text fault.NoMemory = Unit {0}
IsTranslatorFault text _ = ⊥
