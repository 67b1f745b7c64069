-- Values that an environment lends.
use Rattle.ag_eval.proofs.Common.{ℕ, Value, IsWell, AreWell}

-- one value, lent for every occurrence
pub are_well : (n : ℕ) (v : Value) → IsWell v → AreWell n (λ k. v)
are_well n v well = record { well = λ k lt. well }
