use Rattle.std.proofs.Common.{rules, refl}
use Rattle.rope.proofs.Sides.{more_same}
use Rattle.rope.proofs.comparing.same_by_blocks.Goals as goal

pub loop-at-preserved : goal.loop-at-preserved
loop-at-preserved c = record {
  same = more_same c.loop-at.at c.min-count.result c.args.one.now c.args.another.now c.loop-at.invariant.same
      (c.if-not-same_block.ensures.0 refl);
  within = search rules;
  len = c.loop-at.invariant.len;
}
