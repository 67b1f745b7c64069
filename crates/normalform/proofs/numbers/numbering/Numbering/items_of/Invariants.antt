-- The invariant of the loop of `Numbering::items_of`.
use Rattle.normalform.proofs.Common.{◌≡◌, take, map, item_of, declared_names}
use Rattle.normalform.proofs.numbers.numbering.Numbering.items_of.Given as goal

abbrev pub invariant-loop-item : goal.invariant-loop-item
invariant-loop-item l =
    l.numbered.items ≡ map (item_of (declared_names l.self.declared) l.self.literals) (take l.item-index l.items)
