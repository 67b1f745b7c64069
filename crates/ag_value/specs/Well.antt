-- Well values: those that `encode` requires and `decode` returns. All of this is this project's.
use Rattle.std.specs.Prelude.{◌≡◌, ℕ, ◌^◌, ◌≤◌, ℤ, pos, negsuc, Bool, true, false, ◌&&◌, ◌||◌, nat_lt, List, [], ◌∷◌, map}
use Rattle.std.specs.Cmp.Lexicographic.{slice_cmp}
use Rattle.std.specs.Ordering.{nat_cmp, is_lt}
use Rattle.std.specs.Str.{is_utf8}
use Rattle.ag_value.specs.declared.value.Value.{Value, fold-Value}
use Rattle.ag_value.specs.declared.value.Value.TheOpen.{Value-F}
use Rattle.ag_value.specs.Measure.{weight_of, depth_of, max_weight, max_value_depth}

-- whether a number is from -2^63 to 2^63 - 1
abbrev pub is_i64 : ℤ → Bool
is_i64 (pos n) = nat_lt n (2 ^ 63)
is_i64 (negsuc n) = nat_lt n (2 ^ 63)

-- whether one text comes before another, compared by their bytes: the first byte in which they differ decides, and a proper
-- prefix comes first
abbrev pub is_before : List ℕ → List ℕ → Bool
is_before a b = is_lt (slice_cmp nat_cmp a b)

-- whether each key comes before the next
abbrev pub is_ascending : List (List ℕ) → Bool
is_ascending [] = true
is_ascending (a ∷ []) = true
is_ascending (a ∷ b ∷ keys) = is_before a b && is_ascending (b ∷ keys)

-- whether all elements of a list are true
abbrev pub all_true : List Bool → Bool
all_true [] = true
all_true (b ∷ bs) = b && all_true bs

-- whether these can be the keys of a well table, in its order: each is UTF-8 and comes before the next
abbrev pub are_keys : List (List ℕ) → Bool
are_keys keys = is_ascending keys && all_true (map is_utf8 keys)

-- whether a list or table may contain a value, from the results of this test for the values inside that value
abbrev pub item_step : Value-F Bool → Bool
item_step (Value-F.Num n) = is_i64 n
item_step (Value-F.Text text) = is_utf8 text
item_step (Value-F.List items) = all_true items
item_step (Value-F.Table pairs) = are_keys (map (λ p. p.0) pairs) && all_true (map (λ p. p.1) pairs)
item_step (Value-F.Fault code) = false

-- Whether a list or table may contain a value. The conditions are for the value itself and for the values at every level in it:
-- no value is an error, numbers are of i64, texts and keys are UTF-8, and the keys of a table rise strictly by their bytes.
abbrev pub is_item : Value → Bool
is_item = fold-Value Bool item_step

-- the key of a pair of a table
abbrev pub key_of : List ℕ × Value → List ℕ
key_of p = p.0

-- whether a list or table may contain the value of a pair
abbrev pub is_item_pair : List ℕ × Value → Bool
is_item_pair p = is_item p.1

-- whether a value is an error, from its outermost level
abbrev pub fault_step : Value-F Bool → Bool
fault_step (Value-F.Num n) = false
fault_step (Value-F.Text text) = false
fault_step (Value-F.List items) = false
fault_step (Value-F.Table pairs) = false
fault_step (Value-F.Fault code) = true

-- whether a value is an error
abbrev pub is_fault : Value → Bool
is_fault = fold-Value Bool fault_step

-- A value is well if its depth and its weight are within the limits, and if it is an error or a value that a list or table may
-- contain.
pub record IsWell (value : Value) : Type 0 where
  pub formed : (is_fault value || is_item value) ≡ true
  pub shallow : depth_of value ≤ max_value_depth
  pub light : weight_of value ≤ max_weight
