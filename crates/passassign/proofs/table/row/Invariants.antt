use Rattle.passassign.proofs.Common.{ℕ, ◌≡◌, ◌<◌, length, Some, slice_get, unwrap_or, slot_of, state_at, pass_of_state}
use Rattle.passassign.proofs.table.row.Given as goal

abbrev pub invariant-loop-attr : goal.invariant-loop-attr
invariant-loop-attr l = record {
  len : length l.row.items ≡ l.attr;
  passes : (a : ℕ) → a < l.attr → slice_get l.row.items a
      ≡ Some (unwrap_or (pass_of_state (state_at l.states (slot_of l.symbol a))) 0);
}
