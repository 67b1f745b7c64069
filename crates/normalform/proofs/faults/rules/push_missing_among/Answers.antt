-- The step of the loop.
use Rattle.normalform.proofs.Common.{◌+◌, refl, map, missing_at, next_index, item_placed}
use Rattle.normalform.specs.declared.faults.resolved.PlacedItem.TheVariants as placed
use Rattle.normalform.proofs.Listing.{along_past, mapped, within}
use Rattle.normalform.proofs.faults.rules.push_missing_among.Goals as goal

pub loop-place-preserved : goal.loop-place-preserved
loop-place-preserved c =
    along_past (missing_at c.args.declared.now c.args.targets.now c.args.production) next_index c.loop-place.place
    (c.loop-place.place + 1) (map item_placed c.args.items.now) _ _ _ _ _
    (within item_placed c.args.items.now c.loop-place.place c.loop-place-test.true)
    (mapped item_placed c.args.items.now c.loop-place.place (placed.Symbol 0 0) c.loop-place-test.true)
    c.in_ok-push_missing_at.ensures refl c.loop-place.invariant
