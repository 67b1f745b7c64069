-- The invariant of the loop of `list_literals`.
use Rattle.normalform.proofs.Common.{◌≡◌, fold, take, with_item}
use Rattle.normalform.proofs.faults.limits.list_literals.Given as goal

abbrev pub invariant-loop-item : goal.invariant-loop-item
invariant-loop-item l = l.texts ≡ fold with_item l.initial.texts (take l.item-index l.items)
