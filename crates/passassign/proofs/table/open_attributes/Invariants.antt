use Rattle.passassign.proofs.slots.OpenOnes.{AreOpenOnes}
use Rattle.passassign.proofs.table.open_attributes.Given as goal

abbrev pub invariant-loop-slot : goal.invariant-loop-slot
invariant-loop-slot l = AreOpenOnes l.states l.slot l.found.items
