use Rattle.passassign.proofs.Common.{arith, slice_get-get_or, slice_get_within}
use Rattle.passassign.proofs.strikes.ReportedStrikes.{strike_more}
use Rattle.passassign.proofs.search.strikes_of.Goals as goal

pub dependency_for-requires : goal.dependency_for-requires
dependency_for-requires c =
    c.requires c.loop-one.one-index _ (slice_get-get_or c.args.added.now c.loop-one.one-index _ c.loop-one-test.true)

pub loop-one-preserved : goal.loop-one-preserved
loop-one-preserved c = record {
  len = omega (arith, c.loop-one.invariant.len, c.in_ok-push.ensures.len);
  exact = λ i x lt e. rw c.in_ok-push.ensures.items
      (strike_more c.args.all.now c.args.barred.now c.args.added.now c.loop-one.strikes.items c.loop-one.one-index _
      c.dependency_for.result c.loop-one.invariant.len c.dependency_for.ensures c.loop-one.invariant.exact i x lt e);
}

pub returns : goal.returns
returns c = record {
  len = omega (arith, c.loop-one.invariant.len, c.loop-one.auto.one-index-end, c.loop-one-test.false);
  exact =
      λ i x e. c.loop-one.invariant.exact i x (omega (arith, slice_get_within c.args.added.now i x e, c.loop-one-test.false)) e;
}
