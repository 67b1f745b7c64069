-- What contracts see of a run of the program, and why its steps fail. All of this is this project's.
use Rattle.std.specs.Prelude.{◌≡◌, ℕ, ◌⊎◌, true, false, List, [], ◌∷◌, Option, Some, None}
use Rattle.std.specs.Borrow.{Bor}
use Rattle.ag_fault.specs.declared.fault.Fault.{Fault}
use Rattle.ag_fault.specs.declared.fault.Fault.TheVariants as fault
use Rattle.ag_job.specs.declared.fault.JobFault.TheVariants as job
use Rattle.command_line.specs.declared.input.InputPath.{InputPath}
use Rattle.command_line.specs.declared.input.InputPath.TheVariants as input
use Rattle.messages.specs.Printed.{line_of}
use Rattle.messages.specs.declared.report.FaultReport.{FaultReport}
use Rattle.noted_file.specs.Calls.{Event as Call}
use Rattle.run_record.specs.Events.{Event, file_event, report_event, standard_event}

-- What was read, written and reported so far (`events`), and the calls on tree files: on the one that was closed last (`tree`),
-- and on a.agt (`a`) and b.agt (`b`) of the translation that ended last. All with the newest first.
pub record State : Type 0 where
  pub events : List Event
  pub tree : List Call
  pub a : List Call
  pub b : List Call

-- the same with one more event
abbrev pub after : Event → State → State
after event s = record s { events = event ∷ s.events }

-- the path of a file, if there is one
abbrev pub path_of : Option (Bor (List ℕ)) → Option (List ℕ)
path_of None = None
path_of (Some path) = Some path.now

-- these bytes were read from an input
abbrev pub read_event : InputPath → List ℕ → Event
read_event input.Standard bytes = standard_event bytes
read_event (input.File path) bytes = file_event path.now bytes

-- the line of a report was given to the screen, or its parts, if there was no memory for the line
abbrev pub HasReported : FaultReport → (old new : State) → Type 0
HasReported report old new =
    (new ≡ after (report_event true (line_of report)) old) ⊎ (new ≡ after (report_event false []) old)

-- Why an input or a tree file was not read: a misused command line (as for an output that is an input), F1, J2, or refused memory.
abbrev pub IsInputFault : Fault → Type 0
IsInputFault fault.Usage = Unit {0}
IsInputFault fault.File = Unit {0}
IsInputFault (fault.Job job.Read) = Unit {0}
IsInputFault fault.NoMemory = Unit {0}
IsInputFault _ = ⊥

-- why an output was not written: F1, O2, or refused memory
abbrev pub IsOutputFault : Fault → Type 0
IsOutputFault fault.File = Unit {0}
IsOutputFault fault.Write = Unit {0}
IsOutputFault fault.NoMemory = Unit {0}
IsOutputFault _ = ⊥
