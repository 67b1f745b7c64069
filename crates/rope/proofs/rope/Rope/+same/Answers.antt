use Rattle.std.proofs.Common.{rules, refl}
use Rattle.rope.proofs.Sides.{AreCut, left_same}
use Rattle.rope.proofs.rope.Rope.+same.Goals as goal

pub loop-one-preserved-else-not-same : goal.loop-one-preserved-else-not-same
loop-one-preserved-else-not-same t c =
    let one = c.as_ref-pair.result.now in
    let another = c.as_ref-other_pair.result.now in
    let cut : AreCut c.loop-one.one.now c.loop-one.another.now one.left one.right another.left another.right =
    record { first = search rules; second = search rules; len = search rules } in
    left_same _ _ _ _ one.left one.right another.left another.right c.loop-one.invariant cut (c.if-not-same.ensures.0 refl)
