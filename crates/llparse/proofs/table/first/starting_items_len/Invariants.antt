use Rattle.llparse.proofs.Common.{◌≡◌, ◌++◌, take, drop, is_marked, starting_items}
use Rattle.llparse.proofs.table.first.starting_items_len.Given as goal

abbrev pub invariant-loop-at : goal.invariant-loop-at
invariant-loop-at l =
    starting_items (is_marked l.nullable) l.items ≡ take l.at l.items ++ starting_items (is_marked l.nullable) (drop l.at l.items)
