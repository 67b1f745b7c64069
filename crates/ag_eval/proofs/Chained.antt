-- One more operand of a chain of values.
use Rattle.ag_eval.proofs.Common
use Common.{ℕ, ◌≡◌, ◌+◌, ◌<◌, true, List, drop, get_or, length, map, and_parts, drop_more, Value, Node, Operator, chain_value}
use Common.{value_in, all_below, operation_result}

-- `old` is the value of the first i + 1 operands of a chain, and `new` that of the first i + 2. The chain has the value `whole`
-- if it goes on from `old` with the remaining operands, and also if it goes on from `new` without the first of these, x.
module _ (others : List (Operator × Node)) (i : ℕ) (x : Operator × Node) (lt : i < length others) (env : ℕ → Value)
    (bound : List Value) where
  pub chained_more : (old new right whole : Value) → x ≡ get_or others i x → right ≡ value_in x.1 env bound
      → new ≡ operation_result x.0 old right
      → chain_value env bound old (map (λ (p : Operator × Node). (p.0, value_in p.1)) (drop i others)) ≡ whole
      → chain_value env bound new (map (λ (p : Operator × Node). (p.0, value_in p.1)) (drop (i + 1) others)) ≡ whole
  chained_more old new right whole same right_is new_is so_far = let next = rw (drop_more others i x lt) at so_far in cc

pub below_more : (n bound : ℕ) (others : List (Operator × Node)) (i : ℕ) (x : Operator × Node) → i < length others
    → all_below n bound (drop i others) ≡ true → all_below n bound (drop (i + 1) others) ≡ true
below_more n bound others i x lt below = (and_parts _ _ (rw (drop_more others i x lt) at below)).1
