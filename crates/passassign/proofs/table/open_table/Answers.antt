use Rattle.passassign.proofs.Common.{arith}
use Rattle.passassign.proofs.table.open_table.Goals as goal

pub returns : goal.returns
returns c = record { len = omega arith; at = λ s a lt less. c.loop-symbol.invariant.at s a lt (omega arith) }
