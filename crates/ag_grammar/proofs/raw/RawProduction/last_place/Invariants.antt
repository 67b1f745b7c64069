use Rattle.ag_grammar.proofs.Common.{◌≡◌, ◌≤◌, ◌+◌, drop, length, raw_stored}
use Rattle.ag_grammar.proofs.raw.RawProduction.last_place.Given as goal

abbrev pub invariant-loop-item : goal.invariant-loop-item
invariant-loop-item l =
    (l.last ≤ l.item-index) × (l.last + length (raw_stored (drop l.item-index l.self.items)) ≡ length (raw_stored l.self.items))
