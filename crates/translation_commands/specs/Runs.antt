-- What the commands that translate do, and why they fail: what they read and wrote, and what is true of that. In this file g is a
-- grammar, `work` the folder of the tree files of `--work`, if there is one, `old` and `new` what contracts see of the run before
-- and after the command, and e a fault. All of this is this project's.
use Rattle.std.specs.Prelude.{◌≡◌, ◌≢◌, ℕ, ◌⊎◌, Bool, true, false, List, [], ◌∷◌, Option, Some, None}
use Rattle.ag_fault.specs.declared.fault.Fault.{Fault}
use Rattle.ag_fault.specs.declared.fault.Fault.TheVariants as fault
use Rattle.ag_grammar.specs.grammars.AttributeGrammar.{Grammar}
use Rattle.ag_grammar.specs.grammars.Tree.{Tree}
use Rattle.ag_job.specs.Jobs.{IsJob, JobTexts}
use Rattle.aggen.specs.Checking.{IsGrammarOf}
use Rattle.aggen.specs.Jobs.{IsNoJob, IsNoTranslator}
use Rattle.aggen.specs.Results.{IsTranslationOf}
use Rattle.aggen.specs.Sentences.{IsTreeOfSentence}
use Rattle.aggen.specs.Translating.{IsTranslationFault}
use Rattle.aggen.specs.Translation.{IsOneTree}
use Rattle.aggen_files.specs.Opening.{IsOpeningFault}
use Rattle.command_line.specs.declared.input.InputPath.{InputPath}
use Rattle.noted_file.specs.Calls.{Event as Call, replay}
use Rattle.program_io.specs.Commands.{IsRefusedCommand, OfGrammar}
use Rattle.program_io.specs.Sessions.{IsInputFault, IsOutputFault, State, read_event}
use Rattle.run_record.specs.Events.{Event, open_event, standard_event, write_event}
use Rattle.treefile.specs.devices.Device.{WhenHonest}

-- the events after the tree files in the folder were opened, if there is a folder
abbrev pub opened : (work : Option (List ℕ)) → List Event → List Event
opened None events = events
opened (Some folder) events = open_event folder ∷ events

-- Whether a tree file is honest, by the calls on it. Those in memory are honest.
abbrev pub is_honest : (work : Option (List ℕ)) → List Call → Bool
is_honest None calls = true
is_honest (Some folder) calls = (replay calls).is_honest

-- The sentence has exactly one tree, which is within the limits. If the tree files are honest, the text is the translation.
pub record Translated (g : Grammar) (work : Option (List ℕ)) (sentence : List ℕ) (new : State) (text : List ℕ) : Type 0 where
  pub tree : Tree
  pub one : IsOneTree (IsTreeOfSentence g sentence) tree
  pub is : WhenHonest (is_honest work new.a) (WhenHonest (is_honest work new.b) (IsTranslationOf g sentence text))

-- The fault is true of the sentence, as far as `IsTranslationFault` says. O2 is none of a translation in memory.
abbrev pub IsTrueOf : Grammar → (work : Option (List ℕ)) → (sentence : List ℕ) → State → Fault → Type 0
IsTrueOf g work sentence new e =
    IsTranslationFault g sentence (is_honest work new.a) (is_honest work new.b) (Some []) (Some []) e × (e ≢ fault.Write)

-- A sentence was not translated. Nothing was written: either the tree files could not be opened, or only they were opened, and
-- the fault is true of the sentence.
abbrev pub IsUntranslated : Grammar → (work : Option (List ℕ)) → (sentence : List ℕ) → List Event → State → Fault → Type 0
IsUntranslated g work sentence events new e =
    ((new.events ≡ events) × IsOpeningFault e) ⊎ ((new.events ≡ opened work events) × IsTrueOf g work sentence new e)

-- A sentence was read, translated, and the translation written to the output, in this order. Nothing else was read or written.
pub record Delivers (g : Grammar) (work : Option (List ℕ)) (from : InputPath) (output : Option (List ℕ)) (events : List Event)
    (new : State) : Type 0 where
  pub sentence : List ℕ
  pub text : List ℕ
  pub done : new.events ≡ write_event true output text ∷ opened work (read_event from sentence ∷ events)
  pub is : Translated g work sentence new text

-- The translation was made as `Delivers` says, but could not be written.
pub record IsUnwritten (g : Grammar) (work : Option (List ℕ)) (from : InputPath) (output : Option (List ℕ)) (events : List Event)
    (new : State) (e : Fault) : Type 0 where
  pub sentence : List ℕ
  pub text : List ℕ
  pub done : new.events ≡ write_event false output text ∷ opened work (read_event from sentence ∷ events)
  pub is : Translated g work sentence new text
  pub reason : IsOutputFault e

-- A sentence was read but not translated.
pub record IsRefused (g : Grammar) (work : Option (List ℕ)) (from : InputPath) (events : List Event) (new : State) (e : Fault)
    : Type 0 where
  pub sentence : List ℕ
  pub reason : IsUntranslated g work sentence (read_event from sentence ∷ events) new e

-- Why a sentence's translation was not delivered: the sentence could not be read, was not translated, or its translation could
-- not be written.
abbrev pub IsUndelivered : Grammar → (work : Option (List ℕ)) → InputPath → (output : Option (List ℕ)) → List Event → State → Fault
    → Type 0
IsUndelivered g work from output events new e =
    ((new.events ≡ events) × IsInputFault e)
    ⊎ (IsRefused g work from events new e ⊎ IsUnwritten g work from output events new e)

-- `run G S`: the grammar and the sentence were read, and the translation was written.
abbrev pub RunsSentence : (grammar sentence : InputPath) → (output work : Option (List ℕ)) → (old new : State) → Type 0
RunsSentence grammar sentence output work old new =
    OfGrammar grammar old.events (λ g events. Delivers g work sentence output events new)

-- `run G S` failed. If the fault is one of a grammar, a sentence or a translation, it is true of it, and nothing was written.
abbrev pub IsRefusedRun : (grammar sentence : InputPath) → (output work : Option (List ℕ)) → (old new : State) → Fault → Type 0
IsRefusedRun grammar sentence output work old new e =
    IsRefusedCommand grammar old.events new e (λ g events. IsUndelivered g work sentence output events new e)

-- A translator was built from the job's grammar, its sentence was translated, and the translation was printed.
pub record DeliversJob (texts : JobTexts) (events : List Event) (new : State) : Type 0 where
  pub grammar : Grammar
  pub is_grammar : IsGrammarOf texts.grammar grammar
  pub text : List ℕ
  pub done : new.events ≡ write_event true None text ∷ events
  pub is : Translated grammar None texts.sentence new text

-- The translation of a job was made, but could not be printed.
pub record IsUnprintedJob (texts : JobTexts) (events : List Event) (new : State) (e : Fault) : Type 0 where
  pub grammar : Grammar
  pub is_grammar : IsGrammarOf texts.grammar grammar
  pub text : List ℕ
  pub done : new.events ≡ write_event false None text ∷ events
  pub is : Translated grammar None texts.sentence new text
  pub reason : IsOutputFault e

-- A job was not translated, or its translation not printed: its grammar is refused, its sentence was not translated, or printing
-- failed.
abbrev pub IsUndeliveredJob : JobTexts → List Event → State → Fault → Type 0
IsUndeliveredJob texts events new e =
    ((new.events ≡ events) × IsNoTranslator texts.grammar e)
    ⊎ (((grammar : Grammar) × IsGrammarOf texts.grammar grammar × IsUntranslated grammar None texts.sentence events new e)
    ⊎ IsUnprintedJob texts events new e)

-- The bytes that were read from standard input are a job, and `P` holds of its texts and the events so far.
pub record OfJob (events : List Event) (P : JobTexts → List Event → Type 0) : Type 0 where
  pub bytes : List ℕ
  pub texts : JobTexts
  pub is : IsJob bytes texts.grammar texts.sentence
  pub holds : P texts (standard_event bytes ∷ events)

-- The bytes that were read from standard input are no job, for this reason.
pub record IsRefusedInput (events : List Event) (new : State) (e : Fault) : Type 0 where
  pub bytes : List ℕ
  pub done : new.events ≡ standard_event bytes ∷ events
  pub reason : IsNoJob (Some bytes) e

-- the job on standard input was read and translated, and its translation was printed
abbrev pub RunsJob : (old new : State) → Type 0
RunsJob old new = OfJob old.events (λ texts events. DeliversJob texts events new)

-- The job on standard input was not read, is none, or was not translated, or its translation could not be printed.
abbrev pub IsRefusedJob : (old new : State) → Fault → Type 0
IsRefusedJob old new e =
    ((new.events ≡ old.events) × IsInputFault e)
    ⊎ (IsRefusedInput old.events new e ⊎ OfJob old.events (λ texts events. IsUndeliveredJob texts events new e))
