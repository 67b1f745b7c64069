use Rattle.std.proofs.Common.{◌≡◌, map, take}
use Rattle.translation_commands.proofs.batch.tasks_of.Given as goal

abbrev pub invariant-loop-sentence : goal.invariant-loop-sentence
invariant-loop-sentence l = map (λ task. task.sentence) l.tasks.items ≡ take l.sentence-index l.sentence-items
