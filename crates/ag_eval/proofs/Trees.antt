-- The result of `get`: the value in the pair that was found, or the error `key` if none was found.
use Rattle.ag_eval.proofs.Common
use Common.{◌≡◌, ℕ, List, Option, Some, None, refl, same_Some, option_map, Key, Value, value_or_fault}
use Common.value

pub value_is : (found : Option (List ℕ × Value)) (v : Value) → Some v ≡ option_map (λ p. p.1) found → v ≡ value_or_fault found
value_is None v e = let bad : ⊥ = cc in absurd bad
value_is (Some p) v e = same_Some v p.1 e

pub fault_is : (found : Option (List ℕ × Value)) → None ≡ option_map (λ p. p.1) found → value.Fault Key ≡ value_or_fault found
fault_is None e = refl
fault_is (Some p) e = let bad : ⊥ = cc in absurd bad

pub ruleset got = (value_is, fault_is)
