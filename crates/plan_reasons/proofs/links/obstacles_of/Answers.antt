use Rattle.std.proofs.Common.{inl, inr}
use Rattle.std.proofs.lemmas.Option.{slice_get-get_or}
use Rattle.plan_reasons.proofs.links.obstacles_of.Goals as goal

pub loop-strike-preserved : goal.loop-strike-preserved
loop-strike-preserved c = λ x h. elim (c.in_ok-append_obstacle.ensures x h) [
  | inl there ↦ c.loop-strike.invariant x there
  | inr new ↦ (
    _,
    (c.loop-strike.strike-index, slice_get-get_or c.args.strikes.now c.loop-strike.strike-index _ c.loop-strike-test.true),
    new,
  )
]
