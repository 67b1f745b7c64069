-- The invariant of the loop of `push_unknown_items`.
use Rattle.normalform.proofs.Common.{◌≡◌, drop, flat_map, place_checks}
use Rattle.normalform.specs.faults.FaultList.{after_checks}
use Rattle.normalform.proofs.faults.naming.push_unknown_items.Given as goal

abbrev pub invariant-loop-item : goal.invariant-loop-item
invariant-loop-item l =
    after_checks l.faults (flat_map (place_checks l.declared) (drop l.item-index l.items))
    ≡ after_checks l.initial.faults (flat_map (place_checks l.declared) l.items)
