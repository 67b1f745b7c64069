-- What `check`, `plan`, `code` and `value` print, and why they fail. `old` and `new` are the events before and after the command,
-- and e is a fault. All of this is this project's.
use Rattle.std.specs.Prelude.{◌≡◌, ℕ, ◌⊎◌, Bool, true, false, List, [], ◌∷◌, Some, None}
use Rattle.ag_fault.specs.declared.fault.Fault.{Fault}
use Rattle.ag_fault.specs.declared.fault.Fault.TheVariants as fault
use Rattle.aggen.specs.Checking.{IsCheckFault, PrintsCounts}
use Rattle.aggen.specs.Listing.{IsTranslatorFault, PrintsCode, PrintsPlan}
use Rattle.aggen.specs.Showing.{HasNoValue, HasValue, IsReason}
use Rattle.ag_value.specs.declared.value.Value.{Value}
use Rattle.agoutput.specs.Lines.{value_line}
use Rattle.command_line.specs.declared.input.InputPath.{InputPath}
use Rattle.grammar_commands.specs.declared.listings.Part.{Part}
use Rattle.grammar_commands.specs.declared.listings.Part.TheVariants as part
use Rattle.program_io.specs.Sessions.{IsInputFault, IsOutputFault, read_event}
use Rattle.run_record.specs.Events.{Event, write_event}

-- these lines are what a part selects about the grammar in a text
abbrev pub IsPartOf : Part → (text lines : List ℕ) → Type 0
IsPartOf part.Counts text lines = PrintsCounts text (Some []) (Some lines)
IsPartOf part.Plan text lines = PrintsPlan text (Some []) (Some lines)
IsPartOf part.Code text lines = PrintsCode text (Some []) (Some lines)

-- Why there are no such lines: G and N are true of the text, and for passes and instructions L and A too. For NoMemory nothing is
-- claimed, and no other fault is possible.
abbrev pub IsPartFault : Part → (text : List ℕ) → Fault → Type 0
IsPartFault part.Counts text e = IsCheckFault text e
IsPartFault part.Plan text e = IsTranslatorFault text e
IsPartFault part.Code text e = IsTranslatorFault text e

-- the grammar was read, and the lines that the part selects were printed (`ok`), or printing them failed
pub record HasPrinted (ok : Bool) (part : Part) (from : InputPath) (old new : List Event) : Type 0 where
  pub text : List ℕ
  pub lines : List ℕ
  pub done : new ≡ write_event ok None lines ∷ (read_event from text ∷ old)
  pub are : IsPartOf part text lines

abbrev pub PrintsPart : Part → InputPath → (old new : List Event) → Type 0
PrintsPart = HasPrinted true

-- the grammar was read, and there are no lines for this reason; nothing was printed
pub record IsNoPart (part : Part) (from : InputPath) (old new : List Event) (e : Fault) : Type 0 where
  pub text : List ℕ
  pub done : new ≡ read_event from text ∷ old
  pub reason : IsPartFault part text e

-- The grammar could not be read, or is refused, or its lines could not be printed.
abbrev pub IsRefusedPart : Part → InputPath → (old new : List Event) → Fault → Type 0
IsRefusedPart part from old new e =
    ((new ≡ old) × IsInputFault e) ⊎ (IsNoPart part from old new e ⊎ (HasPrinted false part from old new × IsOutputFault e))

-- the line with the value of an expression's text
pub record HasValueLine (text line : List ℕ) : Type 0 where
  pub shown : Value
  pub has : HasValue text shown
  pub is : line ≡ value_line shown

-- Why there is no such line: X1 to X4 are true of the text, which has no value. For NoMemory nothing is claimed, and no other fault
-- is possible.
abbrev pub IsValueFault : (text : List ℕ) → Fault → Type 0
IsValueFault text (fault.Expr e) = IsReason text e × HasNoValue text
IsValueFault text fault.NoMemory = Unit {0}
IsValueFault text _ = ⊥

-- the line with the value was printed (`ok`), or printing it failed
pub record HasPrintedValue (ok : Bool) (text : List ℕ) (old new : List Event) : Type 0 where
  pub line : List ℕ
  pub done : new ≡ write_event ok None line ∷ old
  pub is : HasValueLine text line

abbrev pub PrintsValue : (text : List ℕ) → (old new : List Event) → Type 0
PrintsValue = HasPrintedValue true

-- The text has no value, or the line could not be printed.
abbrev pub IsRefusedValue : (text : List ℕ) → (old new : List Event) → Fault → Type 0
IsRefusedValue text old new e =
    ((new ≡ old) × IsValueFault text e) ⊎ (HasPrintedValue false text old new × IsOutputFault e)
