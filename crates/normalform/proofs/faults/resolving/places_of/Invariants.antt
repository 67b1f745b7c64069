-- The invariant of the loop of `places_of`.
use Rattle.normalform.proofs.Common.{◌≡◌, ◌++◌, drop, flat_map, declared_names, place_of, places_of}
use Rattle.normalform.proofs.faults.resolving.places_of.Given as goal

abbrev pub invariant-loop-item : goal.invariant-loop-item
invariant-loop-item l =
    l.items.items ++ flat_map (place_of (declared_names l.declared)) (drop l.item-index l.item-items)
    ≡ places_of l.declared l.production
