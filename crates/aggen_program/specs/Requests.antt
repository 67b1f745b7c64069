-- What the program does for each request, and why it fails. `old` and `new` are what contracts see of the run before and after, and
-- e is a fault. Of `why`, `show` and `explain` only the status is claimed. All of this is this project's.
use Rattle.std.specs.Prelude.{◌≡◌, ℕ, ◌⊎◌}
use Rattle.ag_fault.specs.Status.{status_of}
use Rattle.ag_fault.specs.declared.fault.Fault.{Fault}
use Rattle.ag_fault.specs.declared.fault.Fault.TheVariants as fault
use Rattle.command_line.specs.declared.fault.CommandLineFault.{CommandLineFault}
use Rattle.command_line.specs.declared.fault.CommandLineFault.TheVariants as command
use Rattle.command_line.specs.declared.request.Request.{Request}
use Rattle.command_line.specs.declared.request.Request.TheVariants as request
use Rattle.grammar_commands.specs.FaultLists.{IsRefusedList, ListsAll}
use Rattle.grammar_commands.specs.Listings.{IsRefusedPart, IsRefusedValue, PrintsPart, PrintsValue}
use Rattle.grammar_commands.specs.declared.listings.Part.TheVariants as part
use Rattle.messages.specs.declared.report.FaultReport.{FaultReport}
use Rattle.program_io.specs.Sessions.{HasReported, State, path_of}
use Rattle.translation_commands.specs.Batches.{IsRefusedBatch, RunsBatch}
use Rattle.translation_commands.specs.Evaluations.{EvaluatesFile, IsRefusedEvaluation}
use Rattle.translation_commands.specs.Runs.{IsRefusedJob, IsRefusedRun, RunsJob, RunsSentence}
use Rattle.tree_commands.specs.TreeFiles.{ConvertsFile, IsRefusedConversion, IsRefusedParse, ParsesFile}

-- the program's fault for a fault of the command line
abbrev pub fault_of : CommandLineFault → Fault
fault_of command.Usage = fault.Usage
fault_of command.Write = fault.Write
fault_of command.NoMemory = fault.NoMemory

-- the request was carried out, with this exit status
abbrev pub Performs : Request → (old new : State) → (status : ℕ) → Type 0
Performs request.Nothing old new status = (new ≡ old) × (status ≡ 0)
Performs request.Job old new status = RunsJob old new × (status ≡ 0)
Performs (request.Run p) old new status =
    RunsSentence p.grammar p.sentence (path_of p.output) (path_of p.work) old new × (status ≡ 0)
Performs (request.RunAll p) old new status = RunsBatch p old new status
Performs (request.Eval p) old new status =
    EvaluatesFile p.grammar p.tree (path_of p.output) (path_of p.work) old new × (status ≡ 0)
Performs (request.Value text) old new status = PrintsValue text.now old.events new.events × (status ≡ 0)
Performs (request.Check grammar) old new status = PrintsPart part.Counts grammar old.events new.events × (status ≡ 0)
Performs (request.CheckAll words) old new status = ListsAll part.Counts words old new status
Performs (request.Plan grammar) old new status = PrintsPart part.Plan grammar old.events new.events × (status ≡ 0)
Performs (request.PlanAll words) old new status = ListsAll part.Plan words old new status
Performs (request.Code grammar) old new status = PrintsPart part.Code grammar old.events new.events × (status ≡ 0)
Performs (request.Parse p) old new status = ParsesFile p old new × (status ≡ 0)
Performs (request.Upgrade p) old new status = ConvertsFile p old new × (status ≡ 0)
Performs (request.Why p) old new status = status ≡ 0
Performs (request.Show p) old new status = status ≡ 0
Performs (request.Explain p) old new status = status ≡ 0

-- why the request was not carried out
abbrev pub IsRefusedRequest : Request → (old new : State) → Fault → Type 0
IsRefusedRequest request.Nothing old new e = ⊥
IsRefusedRequest request.Job old new e = IsRefusedJob old new e
IsRefusedRequest (request.Run p) old new e =
    IsRefusedRun p.grammar p.sentence (path_of p.output) (path_of p.work) old new e
IsRefusedRequest (request.RunAll p) old new e = IsRefusedBatch p old new e
IsRefusedRequest (request.Eval p) old new e =
    IsRefusedEvaluation p.grammar p.tree (path_of p.output) (path_of p.work) old new e
IsRefusedRequest (request.Value text) old new e = IsRefusedValue text.now old.events new.events e
IsRefusedRequest (request.Check grammar) old new e = IsRefusedPart part.Counts grammar old.events new.events e
IsRefusedRequest (request.CheckAll words) old new e =
    IsRefusedList part.Counts words old.events new.events e
IsRefusedRequest (request.Plan grammar) old new e = IsRefusedPart part.Plan grammar old.events new.events e
IsRefusedRequest (request.PlanAll words) old new e =
    IsRefusedList part.Plan words old.events new.events e
IsRefusedRequest (request.Code grammar) old new e = IsRefusedPart part.Code grammar old.events new.events e
IsRefusedRequest (request.Parse p) old new e = IsRefusedParse p old new e
IsRefusedRequest (request.Upgrade p) old new e = IsRefusedConversion p old new e
IsRefusedRequest (request.Why p) old new e = Unit {0}
IsRefusedRequest (request.Show p) old new e = Unit {0}
IsRefusedRequest (request.Explain p) old new e = Unit {0}

-- The request was not carried out, and the screen got the message of the fault (`failed` is what contracts see before that). The
-- exit status is that of the fault.
pub record Fails (asked : Request) (old new : State) (status : ℕ) : Type 0 where
  pub report : FaultReport
  pub failed : State
  pub reason : IsRefusedRequest asked old failed report.fault
  pub reported : HasReported report failed new
  pub is : status ≡ status_of report.fault

-- what a run of the program does for a request
abbrev pub HasRun : Request → (old new : State) → (status : ℕ) → Type 0
HasRun asked old new status = Performs asked old new status ⊎ Fails asked old new status
