-- What `eval` does, and why it fails. The letters are those of `Runs.antt`. `honest` says whether the device of the tree is
-- honest, and `content` is its content. All of this is this project's.
use Rattle.std.specs.Prelude.{◌≡◌, ◌≢◌, ℕ, ◌⊎◌, Bool, true, false, List, [], ◌∷◌, ◌++◌, Option, Some}
use Rattle.ag_fault.specs.declared.fault.Fault.{Fault}
use Rattle.ag_fault.specs.declared.fault.Fault.TheVariants as fault
use Rattle.ag_grammar.specs.grammars.AttributeGrammar.{Grammar}
use Rattle.aggen.specs.Evaluating.{IsEvaluationFault}
use Rattle.aggen.specs.Results.{IsEvaluationOf}
use Rattle.aggen_files.specs.Opening.{IsOpeningFault}
use Rattle.command_line.specs.declared.input.InputPath.{InputPath}
use Rattle.command_line.specs.declared.input.InputPath.TheVariants as input
use Rattle.noted_file.specs.Calls.{replay}
use Rattle.program_io.specs.Commands.{IsRefusedCommand, OfGrammar}
use Rattle.program_io.specs.Sessions.{IsInputFault, IsOutputFault, State}
use Rattle.run_record.specs.Events.{Event, open_event, standard_event, write_event}
use Rattle.translation_commands.specs.Runs.{is_honest, opened}
use Rattle.treefile.specs.devices.Device.{WhenHonest}

-- If the tree's device and the tree files are honest, the text is the translation of the tree of the content.
abbrev pub Evaluated : Grammar → (work : Option (List ℕ)) → (honest : Bool) → (content : List ℕ) → State → (text : List ℕ) → Type 0
Evaluated g work honest content new text =
    WhenHonest honest (WhenHonest (is_honest work new.a) (WhenHonest (is_honest work new.b) (IsEvaluationOf g content text)))

-- The fault is true of the content, as far as `IsEvaluationFault` says. O2 is none of an evaluation in memory.
abbrev pub IsTrueOfTree : Grammar → (work : Option (List ℕ)) → (honest : Bool) → (content : List ℕ) → State → Fault → Type 0
IsTrueOfTree g work honest content new e =
    IsEvaluationFault g honest (is_honest work new.a) (is_honest work new.b) content (Some []) (Some []) e × (e ≢ fault.Write)

-- The tree was not translated, and nothing was written.
abbrev pub IsUnevaluated : Grammar → (work : Option (List ℕ)) → (honest : Bool) → (content : List ℕ) → List Event → State → Fault
    → Type 0
IsUnevaluated g work honest content events new e =
    ((new.events ≡ events) × IsOpeningFault e)
    ⊎ ((new.events ≡ opened work events) × IsTrueOfTree g work honest content new e)

-- What `P` says holds of the tree's file: of its honesty, its content, and the events so far. The record of its calls decides: if
-- that is honest, `honest` is true, and the content is that of the record. `rest` are bytes that are only buffered: none, since the
-- device only reads, but no clause says so.
pub record OfTreeFile (path : List ℕ) (events : List Event) (new : State) (P : (honest : Bool) → (content : List ℕ) → List Event → Type 0)
    : Type 0 where
  pub honest : Bool
  pub content : List ℕ
  pub rest : List ℕ
  pub still : (replay new.tree).is_honest ≡ true → honest ≡ true
  pub is : (replay new.tree).is_honest ≡ true → content ≡ (replay new.tree).stored ++ rest
  pub then : P honest content (open_event path ∷ events)

-- The same of a tree of an input. Standard input was read into memory, which is honest.
abbrev pub OfTree : InputPath → List Event → State → ((honest : Bool) → (content : List ℕ) → List Event → Type 0) → Type 0
OfTree input.Standard events new P = (bytes : List ℕ) × P true bytes (standard_event bytes ∷ events)
OfTree (input.File path) events new P = OfTreeFile path.now events new P

-- the tree was translated, and the translation written to the output (if `ok`), or writing it failed
pub record IsWritten (ok : Bool) (g : Grammar) (work output : Option (List ℕ)) (new : State) (honest : Bool) (content : List ℕ)
    (events : List Event) : Type 0 where
  pub text : List ℕ
  pub done : new.events ≡ write_event ok output text ∷ opened work events
  pub is : Evaluated g work honest content new text

-- the tree was read, and its translation written
abbrev pub HasEvaluated : Grammar → (work : Option (List ℕ)) → InputPath → (output : Option (List ℕ)) → List Event → State → Type 0
HasEvaluated g work from output events new = OfTree from events new (IsWritten true g work output new)

-- The tree could not be read, was not translated, or its translation could not be written.
abbrev pub IsUnevaluatedFile : Grammar → (work : Option (List ℕ)) → InputPath → (output : Option (List ℕ)) → List Event → State
    → Fault → Type 0
IsUnevaluatedFile g work from output events new e =
    ((new.events ≡ events) × IsInputFault e)
    ⊎ (OfTree from events new (λ honest content events. IsUnevaluated g work honest content events new e)
    ⊎ (OfTree from events new (IsWritten false g work output new) × IsOutputFault e))

-- `eval G TREE`: the grammar and the tree were read, and the translation was written.
abbrev pub EvaluatesFile : (grammar tree : InputPath) → (output work : Option (List ℕ)) → (old new : State) → Type 0
EvaluatesFile grammar tree output work old new =
    OfGrammar grammar old.events (λ g events. HasEvaluated g work tree output events new)

-- `eval G TREE` failed. If the fault is one of a grammar, a tree or a translation, it is true of it, and nothing was written.
abbrev pub IsRefusedEvaluation : (grammar tree : InputPath) → (output work : Option (List ℕ)) → (old new : State) → Fault → Type 0
IsRefusedEvaluation grammar tree output work old new e =
    IsRefusedCommand grammar old.events new e (λ g events. IsUnevaluatedFile g work tree output events new e)
