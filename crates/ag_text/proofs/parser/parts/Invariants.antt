use Rattle.std.proofs.Common.{false, length, []}
use Rattle.ag_text.specs.Reading.{many}
use Rattle.ag_expr.proofs.reading.Turns.{Going}
use Rattle.ag_text.proofs.parser.parts.Given as goal

abbrev pub invariant-loop-alloc : goal.invariant-loop-alloc
invariant-loop-alloc g l =
    Going false g.P.Repeated.begins g.P.Repeated.part l.parts.items l.cursor
    (many g.P.Repeated.begins g.P.Repeated.part [] l.fn.cursor)

abbrev pub decreases-loop-alloc : goal.decreases-loop-alloc
decreases-loop-alloc g l = length l.cursor.left
