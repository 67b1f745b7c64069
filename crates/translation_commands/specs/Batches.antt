-- What `run` with a folder for the translations does. The letters are those of `Runs.antt`. All of this is this project's.
use Rattle.std.specs.Prelude.{◌≡◌, ℕ, ◌⊎◌, List, [], ◌∷◌, Option, Some, None, map, string_bytes}
use Rattle.ag_fault.specs.Status.{status_of}
use Rattle.ag_fault.specs.declared.fault.Fault.{Fault}
use Rattle.ag_grammar.specs.grammars.AttributeGrammar.{Grammar}
use Rattle.command_line.specs.declared.input.InputPath.TheVariants as input
use Rattle.command_line.specs.declared.request.BatchPaths.{BatchPaths}
use Rattle.messages.specs.declared.report.FaultReport.{FaultReport}
use Rattle.program_io.specs.Commands.{IsNoGrammar, OfGrammar}
use Rattle.program_io.specs.Sessions.{HasReported, IsInputFault, State, path_of}
use Rattle.translation_commands.specs.Runs.{Delivers, IsUndelivered}
use Rattle.translation_commands.specs.declared.batch.Task.{Task}

-- A sentence was not delivered, and the screen got the message about it. Its status is that of the fault.
pub record IsReported (g : Grammar) (work : Option (List ℕ)) (task : Task) (old new : State) (status : ℕ) : Type 0 where
  pub report : FaultReport
  pub failed : State
  pub reason : IsUndelivered g work (input.File task.sentence) (Some (string_bytes task.output)) old.events failed report.fault
  pub reported : HasReported report failed new
  pub is : status ≡ status_of report.fault

-- A sentence was read, translated and delivered to its file, or the screen got the message why not (with this status).
abbrev pub IsDone : Grammar → (work : Option (List ℕ)) → Task → (old new : State) → (failed : Option ℕ) → Type 0
IsDone g work task old new None =
    Delivers g work (input.File task.sentence) (Some (string_bytes task.output)) old.events new
IsDone g work task old new (Some status) = IsReported g work task old new status

-- the status of the first sentence that failed, from that of the first of those before and that of the last one
abbrev pub sooner : (first last : Option ℕ) → Option ℕ
sooner None last = last
sooner (Some status) last = Some status

-- Each sentence is done, one after the other. `first` and `result` are the statuses of the first sentence that failed, before
-- and after.
abbrev pub AreDone : Grammar → (work : Option (List ℕ)) → List Task → (old new : State) → (first result : Option ℕ) → Type 0
AreDone g work [] old new first result = (new ≡ old) × (result ≡ first)
AreDone g work (task ∷ tasks) old new first result =
    (next : State) × (failed : Option ℕ) × IsDone g work task old next failed × AreDone g work tasks next new (sooner first failed) result

-- the exit status: that of the first sentence that failed, or 0
abbrev pub status_of_first : Option ℕ → ℕ
status_of_first None = 0
status_of_first (Some status) = status

-- `run G S1 S2 .. --out-dir DIR`: the grammar was read, and then each sentence done.
pub record RunsBatch (paths : BatchPaths) (old new : State) (status : ℕ) : Type 0 where
  pub tasks : List Task
  pub sentences : map (λ task. task.sentence) tasks ≡ paths.sentences.items
  pub first : Option ℕ
  pub grammar : OfGrammar paths.grammar old.events (λ g events.
      AreDone g (path_of paths.work) tasks (record old { events = events }) new None first)
  pub is : status ≡ status_of_first first

-- No sentence was read: the command line is misused, the grammar can't be read or is refused.
abbrev pub IsRefusedBatch : BatchPaths → (old new : State) → Fault → Type 0
IsRefusedBatch paths old new e =
    ((new.events ≡ old.events) × IsInputFault e) ⊎ IsNoGrammar paths.grammar old.events new e
