-- What commands of a grammar have in common: its text is read first. `events` are those before, and `new` is what contracts see of
-- the run afterwards. All of this is this project's.
use Rattle.std.specs.Prelude.{◌≡◌, ℕ, ◌⊎◌, List, ◌∷◌}
use Rattle.ag_fault.specs.declared.fault.Fault.{Fault}
use Rattle.ag_grammar.specs.grammars.AttributeGrammar.{Grammar}
use Rattle.aggen.specs.Checking.{IsGrammarOf}
use Rattle.aggen.specs.Jobs.{IsNoTranslator}
use Rattle.command_line.specs.declared.input.InputPath.{InputPath}
use Rattle.program_io.specs.Sessions.{IsInputFault, State, read_event}
use Rattle.run_record.specs.Events.{Event}

-- The text of a grammar was read from an input, and what `P` says holds of the grammar and the events so far.
pub record OfGrammar (from : InputPath) (events : List Event) (P : Grammar → List Event → Type 0) : Type 0 where
  pub text : List ℕ
  pub grammar : Grammar
  pub is : IsGrammarOf text grammar
  pub holds : P grammar (read_event from text ∷ events)

-- no translator was built from the text that was read, for this reason; nothing else was read or written
pub record IsNoGrammar (from : InputPath) (events : List Event) (new : State) (e : Fault) : Type 0 where
  pub text : List ℕ
  pub done : new.events ≡ read_event from text ∷ events
  pub reason : IsNoTranslator text e

-- Why a command of a grammar failed: before anything was read, since its text is refused, or for the reason `P`.
abbrev pub IsRefusedCommand : InputPath → List Event → State → Fault → (Grammar → List Event → Type 0) → Type 0
IsRefusedCommand from events new e P =
    ((new.events ≡ events) × IsInputFault e) ⊎ (IsNoGrammar from events new e ⊎ OfGrammar from events P)
