use Rattle.std.proofs.Common.{length}
use Rattle.rope.proofs.Sides.{IsComparing}
use Rattle.rope.proofs.rope.Rope.+has_bytes.Given as goal

abbrev pub invariant-loop-rope : goal.invariant-loop-rope
invariant-loop-rope l = IsComparing l.self l.bytes l.rope l.rest

abbrev pub decreases-loop-rope : goal.decreases-loop-rope
decreases-loop-rope l = length l.rope

abbrev pub decreases-has_bytes : goal.decreases-has_bytes
decreases-has_bytes l = length l.self.now
