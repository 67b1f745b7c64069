use Rattle.passassign.proofs.Common.{refl, arith, slot_of}
use Rattle.passassign.proofs.slots.OpenOnes.{open_more, open_within}
use Rattle.passassign.proofs.table.open_attributes.Goals as goal

pub loop-slot-preserved : goal.loop-slot-preserved
loop-slot-preserved c =
    open_more c.args.states.now c.loop-slot.slot _ c.loop-slot.found.items c.append_open.new.found.items refl
    c.in_ok-append_open.ensures.puts c.in_ok-append_open.ensures.other c.loop-slot.invariant

pub returns-clause-all : goal.returns-clause-all
returns-clause-all c = λ s a. (
  (λ m. let o = (c.loop-slot.invariant.all s a).0 m in (o.0, o.2)),
  (λ m. (c.loop-slot.invariant.all s a).1 (m.0, omega (arith, open_within c.args.states.now (slot_of s a) m.1), m.1)),
)
