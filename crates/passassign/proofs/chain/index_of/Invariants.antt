use Rattle.passassign.proofs.Common.{ℕ, ◌≡◌, ◌<◌, Some, slice_get, Strike}
use Rattle.passassign.proofs.chain.index_of.Given as goal

abbrev pub invariant-loop-index : goal.invariant-loop-index
invariant-loop-index l = (k : ℕ) (x : Strike) → k < l.index → slice_get l.strikes k ≡ Some x
    → (x.symbol ≡ l.symbol) × (x.attr ≡ l.attr) → ⊥
