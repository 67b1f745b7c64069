-- The weight and the depth of a value, and their limits. All of this is this project's.
use Rattle.std.specs.Prelude.{ℕ, ◌+◌, max, List, [], ◌∷◌, length, sum, map}
use Rattle.ag_value.specs.declared.limits.TheConstants.{MAX_VALUE_DEPTH, MAX_WEIGHT}
use Rattle.ag_value.specs.declared.value.Value.{Value, fold-Value}
use Rattle.ag_value.specs.declared.value.Value.TheOpen.{Value-F}

-- the weight of a value, from the weights of the values in it
abbrev pub weight_step : Value-F ℕ → ℕ
weight_step (Value-F.Num n) = 9
weight_step (Value-F.Text text) = 5 + length text
weight_step (Value-F.List weights) = 5 + sum weights
weight_step (Value-F.Table pairs) = 5 + sum (map (λ p. 4 + length p.0 + p.1) pairs)
weight_step (Value-F.Fault code) = 2

-- The weight of a value is the length of its spelling in bytes. A number: 9. A text: 5, and the number of its bytes. A list: 5,
-- and the weights of its items. A table: 5, and for each pair 4, the number of the key's bytes, and the value's weight. An
-- error: 2.
abbrev pub weight_of : Value → ℕ
weight_of = fold-Value ℕ weight_step

-- the weight of a pair of a table
abbrev pub weight_of_pair : List ℕ × Value → ℕ
weight_of_pair p = 4 + length p.0 + weight_of p.1

-- the greatest of some numbers, 0 if there is none
abbrev pub greatest : List ℕ → ℕ
greatest [] = 0
greatest (n ∷ ns) = max n (greatest ns)

-- the depth of a value, from the depths of the values in it
abbrev pub depth_step : Value-F ℕ → ℕ
depth_step (Value-F.Num n) = 0
depth_step (Value-F.Text text) = 0
depth_step (Value-F.List depths) = 1 + greatest depths
depth_step (Value-F.Table pairs) = 1 + greatest (map (λ p. p.1) pairs)
depth_step (Value-F.Fault code) = 0

-- The depth of a value: 0 for a number, a text and an error; for a list or a table one more than that of the
-- deepest value in it, and 1 if it is empty.
abbrev pub depth_of : Value → ℕ
depth_of = fold-Value ℕ depth_step

-- the greatest weight of a well value, in bytes
abbrev pub max_weight : ℕ
max_weight = MAX_WEIGHT

-- the greatest depth of a well value
abbrev pub max_value_depth : ℕ
max_value_depth = MAX_VALUE_DEPTH
