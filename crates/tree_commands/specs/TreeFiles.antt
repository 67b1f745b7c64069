-- What `parse` and `upgrade` do, and why they fail. In this file g is a grammar, `old` and `new` are what contracts see of the run
-- before and after the command, `events` are the events before a step, and e is a fault. All of this is this project's.
use Rattle.std.specs.Prelude.{◌≡◌, ℕ, ◌⊎◌, Bool, true, false, List, ◌∷◌, ◌++◌, None}
use Rattle.ag_fault.specs.declared.fault.Fault.{Fault}
use Rattle.ag_fault.specs.declared.fault.Fault.TheVariants as fault
use Rattle.ag_grammar.specs.grammars.AttributeGrammar.{Grammar}
use Rattle.aggen.specs.Sentences.{IsSentenceFault}
use Rattle.aggen.specs.Upgrading.{IsOldFileFault}
use Rattle.aggen_files.specs.Trees.{ParsesSentence, UpgradesFile}
use Rattle.agoutput.specs.Lines.{nodes_line}
use Rattle.command_line.specs.declared.request.ParsePaths.{ParsePaths}
use Rattle.command_line.specs.declared.request.UpgradePaths.{UpgradePaths}
use Rattle.noted_file.specs.Calls.{replay}
use Rattle.program_io.specs.Commands.{IsRefusedCommand, OfGrammar}
use Rattle.program_io.specs.Sessions.{IsInputFault, IsOutputFault, State, after, read_event}
use Rattle.run_record.specs.Events.{Event, open_event, write_event}

-- Why the line with a number of nodes was not printed: there was no memory for it, or printing it failed.
abbrev pub IsUnprinted : (count : ℕ) → (old new : State) → Fault → Type 0
IsUnprinted count old new e =
    ((new ≡ old) × (e ≡ fault.NoMemory)) ⊎ ((new ≡ after (write_event false None (nodes_line count)) old) × IsOutputFault e)

-- Why a sentence's tree file was not written: it could not be opened, or the fault is true of the sentence.
abbrev pub IsUnparsedTree : Grammar → (path sentence : List ℕ) → (old new : List Event) → Fault → Type 0
IsUnparsedTree g path sentence old new e =
    ((new ≡ old) × (e ≡ fault.File)) ⊎ ((new ≡ open_event path ∷ old) × IsSentenceFault g sentence e)

-- The sentence was read, the tree file was opened, and has the sentence's tree if it is honest. `written` are the events after that.
pub record HasTree (g : Grammar) (paths : ParsePaths) (events : List Event) (new : State)
    (P : (count : ℕ) → (written : List Event) → Type 0) : Type 0 where
  pub sentence : List ℕ
  pub count : ℕ
  pub is : ParsesSentence g sentence (replay new.tree).is_honest (replay new.tree).stored count
  pub then : P count (open_event paths.tree.now ∷ (read_event paths.sentence sentence ∷ events))

-- .. and the line with the number of nodes was printed
abbrev pub HasParsed : Grammar → ParsePaths → List Event → State → Type 0
HasParsed g paths events new =
    HasTree g paths events new (λ count written. new.events ≡ write_event true None (nodes_line count) ∷ written)

-- the sentence was read, and its tree file not written
pub record IsNotParsed (g : Grammar) (paths : ParsePaths) (events : List Event) (new : State) (e : Fault) : Type 0 where
  pub sentence : List ℕ
  pub reason : IsUnparsedTree g paths.tree.now sentence (read_event paths.sentence sentence ∷ events) new.events e

-- The sentence could not be read, its tree file was not written, or the line with the number of nodes was not printed.
abbrev pub IsUnparsed : Grammar → ParsePaths → List Event → State → Fault → Type 0
IsUnparsed g paths events new e =
    ((new.events ≡ events) × IsInputFault e)
    ⊎ (IsNotParsed g paths events new e
    ⊎ HasTree g paths events new (λ count written. IsUnprinted count (record new { events = written }) new e))

-- `parse G S TREE`
abbrev pub ParsesFile : ParsePaths → (old new : State) → Type 0
ParsesFile paths old new = OfGrammar paths.grammar old.events (λ g events. HasParsed g paths events new)

-- `parse G S TREE` failed. If the fault is one of a grammar or a sentence, it is true of it, and nothing was printed.
abbrev pub IsRefusedParse : ParsePaths → (old new : State) → Fault → Type 0
IsRefusedParse paths old new e =
    IsRefusedCommand paths.grammar old.events new e (λ g events. IsUnparsed g paths events new e)

-- Why an old tree file was not converted: the new file could not be opened, or the fault is true of the old content.
abbrev pub IsUnconvertedTree : Grammar → (path : List ℕ) → (honest : Bool) → (content : List ℕ) → (old new : List Event) → Fault
    → Type 0
IsUnconvertedTree g path honest content old new e =
    ((new ≡ old) × (e ≡ fault.File)) ⊎ ((new ≡ open_event path ∷ old) × IsOldFileFault g honest true content e)

-- What `P` says holds of the old tree file: of its honesty, its content, and the events so far. The record of its calls decides: if
-- that is honest, `honest` is true, and the content is that of the record. `rest` are bytes that are only buffered: none, since the
-- device only reads, but no clause says so.
pub record OfOldTree (paths : UpgradePaths) (events : List Event) (new : State)
    (P : (honest : Bool) → (content : List ℕ) → List Event → Type 0) : Type 0 where
  pub honest : Bool
  pub content : List ℕ
  pub rest : List ℕ
  pub still : (replay new.a).is_honest ≡ true → honest ≡ true
  pub is : (replay new.a).is_honest ≡ true → content ≡ (replay new.a).stored ++ rest
  pub then : P honest content (open_event paths.old.now ∷ events)

-- the new file has the tree of the old one, and what `P` says holds of the number of nodes and the events so far
pub record IsConverted (g : Grammar) (paths : UpgradePaths) (new : State) (P : (count : ℕ) → List Event → Type 0) (honest : Bool)
    (content : List ℕ) (events : List Event) : Type 0 where
  pub count : ℕ
  pub is : UpgradesFile g honest content (replay new.tree).is_honest (replay new.tree).stored count
  pub then : P count (open_event paths.tree.now ∷ events)

-- .. and the line with the number of nodes was printed
abbrev pub HasConverted : Grammar → UpgradePaths → List Event → State → Type 0
HasConverted g paths events new =
    OfOldTree paths events new
    (IsConverted g paths new (λ count written. new.events ≡ write_event true None (nodes_line count) ∷ written))

-- The old file could not be opened, was not converted, or the line with the number of nodes was not printed.
abbrev pub IsUnconverted : Grammar → UpgradePaths → List Event → State → Fault → Type 0
IsUnconverted g paths events new e =
    ((new.events ≡ events) × IsInputFault e)
    ⊎ (OfOldTree paths events new (λ honest content so_far. IsUnconvertedTree g paths.tree.now honest content so_far new.events e)
    ⊎ OfOldTree paths events new
    (IsConverted g paths new (λ count written. IsUnprinted count (record new { events = written }) new e)))

-- `upgrade G OLD TREE`
abbrev pub ConvertsFile : UpgradePaths → (old new : State) → Type 0
ConvertsFile paths old new = OfGrammar paths.grammar old.events (λ g events. HasConverted g paths events new)

-- `upgrade G OLD TREE` failed. If the fault is one of a grammar or the old file, it is true of it, and nothing was printed.
abbrev pub IsRefusedConversion : UpgradePaths → (old new : State) → Fault → Type 0
IsRefusedConversion paths old new e =
    IsRefusedCommand paths.grammar old.events new e (λ g events. IsUnconverted g paths events new e)
