use Rattle.passassign.proofs.Common.{take_all}
use Rattle.passassign.proofs.slots.Lists.{with_next, without_next}
use Rattle.passassign.proofs.search.barred_dependencies.Goals as goal
use Rattle.passassign.proofs.search.barred_dependencies.Goals.{then-is_barred+in_ok-push, else-is_barred}

pub loop-one-preserved : goal.loop-one-preserved
loop-one-preserved c = elim c.if-is_barred.branch [
  | then-is_barred+in_ok-push w ↦ rw w.barred-is
      (with_next _ _ _ _ _ c.loop-one-test.true c.one-item.is c.loop-one.invariant _ w.in_ok-push.ensures.items
      (c.is_barred.ensures.0 w.if-is_barred.true))
  | else-is_barred w ↦ rw w.barred-is
      (without_next _ _ _ _ _ c.loop-one-test.true c.one-item.is c.loop-one.invariant
      (λ bars. let is = c.is_barred.ensures.1 bars in cc (w.if-is_barred.false)))
]

pub returns : goal.returns
returns c = rw (take_all c.loop-one.one-index c.args.all.now c.loop-one-test.false) at c.loop-one.invariant
