use Rattle.std.proofs.Common.{ℕ, None, Option, drop}
use Rattle.program_io.specs.Sessions.{State, path_of}
use Rattle.translation_commands.specs.Batches.{AreDone}
use Rattle.translation_commands.proofs.batch.translate_each.Given as goal

abbrev pub invariant-loop-task : goal.invariant-loop-task
invariant-loop-task g l = (new : State) (result : Option ℕ)
    → AreDone l.run.translator.now (path_of l.run.work) (drop l.task-index l.tasks) l.session new l.first result
    → AreDone l.run.translator.now (path_of l.run.work) l.tasks l.fn.session new None result
