-- Comparing the values of earlier passes in two rows.
use Rattle.passrun.proofs.Common.{ℕ, ◌≡◌, ◌-◌, ◌↔◌, List, ◌++◌, Value, values_up_to}

-- Rows that begin with values of attributes of these passes agree.
abbrev pub Agree : (passes : List ℕ) (k : ℕ) (ours theirs : List Value) → Type 0 → Type 0
Agree passes k ours theirs same = (f h : ℕ → Value) (rest others : List Value) → ours ≡ values_up_to k passes f ++ rest
    → theirs ≡ values_up_to k passes h ++ others → same ↔ (values_up_to (k - 1) passes f ≡ values_up_to (k - 1) passes h)
