-- The invariant of the loop of `is_readable_in`.
use Rattle.normalform.proofs.Common.{◌≡◌, drop, list_all, readable_item, readable_in}
use Rattle.normalform.proofs.faults.readable.is_readable_in.Given as goal

abbrev pub invariant-loop-item : goal.invariant-loop-item
invariant-loop-item l = list_all readable_item (drop l.item-index l.item-items) ≡ readable_in l.production
