use Rattle.passassign.proofs.Common.{ℕ, ◌≡◌, ◌+◌, ◌<◌, length, state_at, first_state}
use Rattle.passassign.proofs.table.append_slots.Given as goal

abbrev pub invariant-loop-attr : goal.invariant-loop-attr
invariant-loop-attr l = record {
  len : length l.states.items ≡ length l.initial.states.items + l.attr;
  kept : (k : ℕ) → k < length l.initial.states.items → state_at l.states.items k ≡ state_at l.initial.states.items k;
  put : (a : ℕ) → a < l.attr → state_at l.states.items (length l.initial.states.items + a) ≡ first_state l.count a;
}
