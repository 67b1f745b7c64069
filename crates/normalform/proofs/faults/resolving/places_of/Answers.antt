-- Without their offsets the items are those of the numbered production.
use Rattle.normalform.proofs.numbered.Placing.{all_placed}
use Rattle.normalform.proofs.faults.resolving.places_of.Goals as goal

pub returns-clause-items : goal.returns-clause-items
returns-clause-items c =
    all_placed c.args.declared.now c.args.production.now _ c.loop-item.item-index
    (rw c.as_slice-item-items.ensures at c.loop-item-test.false)
    (rw c.as_slice-item-items.ensures at c.loop-item.invariant)
