use Rattle.std.proofs.Common.{◌++◌, length, length-append, subst, sym, ap, arith}
use Rattle.ag_carried.specs.SharedText.{IsTextWithinLimits}
use Rattle.ag_carried.proofs.Texts.{joined_utf8}
use Rattle.ag_value.proofs.Layers.{weight-Text}
use Rattle.ag_carried.proofs.shared_text.SharedText.join.Goals as goal

pub returns-then-len-gt-MAX_LENGTH-clause-none : goal.returns-then-len-gt-MAX_LENGTH-clause-none
returns-then-len-gt-MAX_LENGTH-clause-none c =
    omega (
      arith,
      c.if-len-gt-MAX_LENGTH.true,
      c.len.ensures.len,
      c.len-2.ensures.len,
      length-append c.args.left c.args.right,
      weight-Text (c.args.left ++ c.args.right),
    )

pub invariant_of-result : goal.invariant_of-result
invariant_of-result c =
    let left = c.left.inside.rope in
    let right = c.right.inside.rope in
    subst IsTextWithinLimits (sym c.in_ok-rope.ensures) record {
      utf8 = joined_utf8 left right c.left.invariant.utf8 c.right.invariant.utf8;
      short = omega (
        arith,
        c.if-len-gt-MAX_LENGTH.false,
        c.len.ensures.len,
        c.len-2.ensures.len,
        ap length c.left.view_is,
        ap length c.right.view_is,
        length-append left right,
      );
    }

pub returns-clause-some : goal.returns-clause-some
returns-clause-some c = (
  cc (c.in_ok-rope.ensures, c.left.view_is, c.right.view_is),
  omega (
    arith,
    c.if-len-gt-MAX_LENGTH.false,
    c.len.ensures.len,
    c.len-2.ensures.len,
    length-append c.args.left c.args.right,
    weight-Text (c.args.left ++ c.args.right),
  ),
)
