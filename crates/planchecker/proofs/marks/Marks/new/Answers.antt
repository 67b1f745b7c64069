use Rattle.passassign.specs.Tables.{slot_of}
use Rattle.planchecker.proofs.Marked.{none_marked}
use Rattle.planchecker.proofs.marks.Marks.new.Goals as goal

pub returns-clause-none : goal.returns-clause-none
returns-clause-none c = λ s a h. none_marked 4096 (slot_of s a) h.2
