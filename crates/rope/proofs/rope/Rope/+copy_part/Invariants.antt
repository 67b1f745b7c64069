use Rattle.std.proofs.Common.{◌≤◌, length, take, drop}
use Rattle.rope.proofs.PartCopies.{IsCopying}
use Rattle.rope.proofs.rope.Rope.+copy_part.Given as goal

abbrev pub invariant-loop-rope : goal.invariant-loop-rope
invariant-loop-rope l = record {
  copying : IsCopying l.at l.end l.from l.rope l.out (take (length l.fn.out) (drop l.fn.from l.self));
  fewer : length l.rope ≤ length l.self;
}

abbrev pub decreases-loop-rope : goal.decreases-loop-rope
decreases-loop-rope l = length l.rope

abbrev pub decreases-copy_part : goal.decreases-copy_part
decreases-copy_part l = length l.self.now
