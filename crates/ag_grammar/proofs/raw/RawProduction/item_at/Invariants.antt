use Rattle.ag_grammar.proofs.Common.{◌≡◌, ◌-◌, drop, slice_get, raw_stored}
use Rattle.ag_grammar.proofs.raw.RawProduction.item_at.Given as goal

abbrev pub invariant-loop-item : goal.invariant-loop-item
invariant-loop-item l =
    slice_get (raw_stored (drop l.item-index l.self.items)) l.to_skip ≡ slice_get (raw_stored l.self.items) (l.place - 1)
