-- The remaining goals of `add_uses`.
use Rattle.std.proofs.Common.{take_all}
use Rattle.closure.proofs.Noted.{noted_more, notes_on}
use Rattle.closure.proofs.waiting.add_uses.Goals as goal

pub loop-number-preserved : goal.loop-number-preserved
loop-number-preserved c = record {
  adds = notes_on _ _ _ _ c.loop-number.invariant.adds c.in_ok-add_use.ensures.adds;
  listed =
      noted_more _ _ _ _ _ 0 c.loop-number-test.true c.in_ok-add_use.ensures.adds c.loop-number.invariant.listed
      (λ t e. rw (← e) c.in_ok-add_use.ensures.listed);
}

pub returns-clause-listed : goal.returns-clause-listed
returns-clause-listed c =
    λ t h. c.loop-number.invariant.listed t (rw (take_all c.loop-number.number-index c.args.body.now c.loop-number-test.false) h)
