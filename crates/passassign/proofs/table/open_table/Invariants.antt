use Rattle.passassign.proofs.Common.{ℕ, ◌≡◌, ◌*◌, ◌<◌, length, slice_get, state_at, first_state, slot_of, attribute_count}
use Rattle.passassign.proofs.table.open_table.Given as goal

abbrev pub invariant-loop-symbol : goal.invariant-loop-symbol
invariant-loop-symbol l = record {
  len : length l.states.items ≡ l.symbol-index * 16;
  at : (s a : ℕ) → a < 16 → s < l.symbol-index
      → state_at l.states.items (slot_of s a) ≡ first_state (attribute_count (slice_get l.symbols s)) a;
}
