use Rattle.std.proofs.Common.{length}
use Rattle.rope.proofs.Sides.{IsComparing}
use Rattle.rope.proofs.rope.Rope.+same.Given as goal

abbrev pub invariant-loop-one : goal.invariant-loop-one
invariant-loop-one l = IsComparing l.self l.other l.one l.another

abbrev pub decreases-loop-one : goal.decreases-loop-one
decreases-loop-one l = length l.one

abbrev pub decreases-same : goal.decreases-same
decreases-same l = length l.self.now
