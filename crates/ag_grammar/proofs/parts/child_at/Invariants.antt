use Rattle.ag_grammar.proofs.Common.{◌≡◌, drop, slice_get, stored_items}
use Rattle.ag_grammar.proofs.parts.child_at.Given as goal

abbrev pub invariant-loop-item : goal.invariant-loop-item
invariant-loop-item l = slice_get (stored_items (drop l.item-index l.items)) l.to_skip ≡ slice_get (stored_items l.items) l.index
