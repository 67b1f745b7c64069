use Rattle.passassign.proofs.Common.{ℕ, ◌≡◌, ◌<◌, ◌≤◌, length, state_at, after_pass, is_marked}
use Rattle.passassign.proofs.table.assign_passes.Given as goal

abbrev pub invariant-loop-slot : goal.invariant-loop-slot
invariant-loop-slot l = record {
  len : length l.states.items ≡ length l.initial.states.items;
  done : (k : ℕ) → k < l.slot → state_at l.states.items k ≡ after_pass l.pass (state_at l.initial.states.items k)
      (is_marked l.marks k);
  kept : (k : ℕ) → l.slot ≤ k → state_at l.states.items k ≡ state_at l.initial.states.items k;
}
