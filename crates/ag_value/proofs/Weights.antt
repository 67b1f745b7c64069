-- Bounds on counts by a bound on weights.
use Rattle.std.proofs.Common.{ℕ, ◌≤◌, List, [], ◌∷◌, length, map, sum, arith, subst}
use Rattle.std.proofs.lemmas.List.Sums.{sum_by-cons}
use Rattle.ag_value.specs.declared.value.Value.{Value, out-Value, roll-Value, roll-out-Value}
use Rattle.ag_value.specs.declared.value.Value.TheOpen.{Value-F}
use Rattle.ag_value.specs.declared.value.Value.TheFolds.{fold-roll-Value}
use Rattle.ag_value.specs.Measure.{weight_of, weight_of_pair, weight_step}

-- the weight of each value is positive
pub weight_positive : (v : Value) → 1 ≤ weight_of v
weight_positive v = subst (λ (w : Value). 1 ≤ weight_of w) (roll-out-Value v) (layer (out-Value v))
  where
    layer : (x : Value-F Value) → 1 ≤ weight_of (roll-Value x)
    layer (Value-F.Num n) = let e = fold-roll-Value ℕ weight_step (Value-F.Num n) in omega (arith, e)
    layer (Value-F.Text t) = let e = fold-roll-Value ℕ weight_step (Value-F.Text t) in omega (arith, e)
    layer (Value-F.List vs) = let e = fold-roll-Value ℕ weight_step (Value-F.List vs) in omega (arith, e)
    layer (Value-F.Table ps) = let e = fold-roll-Value ℕ weight_step (Value-F.Table ps) in omega (arith, e)
    layer (Value-F.Fault c) = let e = fold-roll-Value ℕ weight_step (Value-F.Fault c) in omega (arith, e)

pub few_by : {A : Type 0} (f : A → ℕ) → ((x : A) → 1 ≤ f x) → (xs : List A) → length xs ≤ sum (map f xs)
few_by f one [] = omega arith
few_by f one (x ∷ xs) = let more = few_by f one xs in let here = one x in let e = sum_by-cons (λ n. n) (f x) (map f xs) in
    omega (arith, more, here, e)

pub few_items : (vs : List Value) → length vs ≤ sum (map weight_of vs)
few_items vs = few_by weight_of weight_positive vs

pub few_pairs : (ps : List (List ℕ × Value)) → length ps ≤ sum (map weight_of_pair ps)
few_pairs ps = few_by weight_of_pair (λ p. omega arith) ps

pub ruleset few = (few_items, few_pairs)
