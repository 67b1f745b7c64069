use Rattle.passassign.proofs.Common.{ℕ, ◌≡◌, ◌<◌, Some, slice_get, length, Addition, IsStrikeOf}
use Rattle.passassign.proofs.search.strikes_of.Given as goal

abbrev pub invariant-loop-one : goal.invariant-loop-one
invariant-loop-one l = record {
  len : length l.strikes.items ≡ l.one-index;
  exact : (i : ℕ) (x : Addition) → i < l.one-index → slice_get l.added i ≡ Some x → IsStrikeOf l.all l.barred l.strikes.items i x;
}
