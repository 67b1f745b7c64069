-- Operations on tables (this project's). If an argument is an error, `strict` of `Arguments` replaces these results by the error.
-- `put_at`, `get_at`, `has_at` and `keys_at` take the outermost levels of the table and the key (`out-Value`). The definition
-- after each takes the values.
use Rattle.std.specs.Prelude.{◌≡◌, ℕ, suc, Bool, true, false, List, ◌∷◌, ◌++◌, map, filter, find, take, drop, slice_get, Option}
use Rattle.std.specs.Prelude.{Some, None, bytes_eq}
use Rattle.ag_value.specs.declared.value.ErrorCode.TheVariants.{Kind, Key}
use Rattle.ag_value.specs.declared.value.Value.{Value, out-Value}
use Rattle.ag_value.specs.declared.value.Value.TheOpen.{Value-F}
use Rattle.ag_value.specs.declared.value.Value.TheVariants as value
use Rattle.ag_value.specs.Well.{is_before}
use Rattle.ag_value.specs.operations.Arguments.{truth}
use Rattle.ag_value.specs.operations.Fitting.{fit}

-- the first pair with this key, if there is one
abbrev pub pair_with : List ℕ → List (List ℕ × Value) → Option (List ℕ × Value)
pair_with key pairs = find (λ p. bytes_eq p.0 key) pairs

-- pairs whose keys ascend, with v as the value of `key`: a pair is added, or replaces the one with this key; keys still ascend
abbrev pub with_pair : List ℕ → Value → List (List ℕ × Value) → List (List ℕ × Value)
with_pair key v pairs = filter (λ p. is_before p.0 key) pairs ++ (key, v) ∷ filter (λ p. is_before key p.0) pairs

-- `put(t, k, v)`: a table with this value at this key, after the check of the limits; the error `kind` if t is not a table or k
-- is not a text
abbrev pub put_at : Value-F Value → Value-F Value → Value → Value
put_at (Value-F.Table pairs) (Value-F.Text key) v = fit (value.Table (with_pair key v pairs))
put_at table key v = value.Fault Kind

-- `put(t, k, v)`
abbrev pub put_result : Value → Value → Value → Value
put_result table key v = put_at (out-Value table) (out-Value key) v

-- the value of the pair, if there is one, else the error `key`
abbrev pub value_or_fault : Option (List ℕ × Value) → Value
value_or_fault (Some p) = p.1
value_or_fault None = value.Fault Key

-- `get(t, k)`: the value at a key of a table; the error `kind` if t is not a table or k is not a text
abbrev pub get_at : Value-F Value → Value-F Value → Value
get_at (Value-F.Table pairs) (Value-F.Text key) = value_or_fault (pair_with key pairs)
get_at table key = value.Fault Kind

-- `get(t, k)`
abbrev pub get_result : Value → Value → Value
get_result table key = get_at (out-Value table) (out-Value key)

-- whether there is a pair
abbrev pub is_there : Option (List ℕ × Value) → Bool
is_there (Some p) = true
is_there None = false

-- `has(t, k)`: 1 if a table has this key, else 0; the error `kind` if t is not a table or k is not a text
abbrev pub has_at : Value-F Value → Value-F Value → Value
has_at (Value-F.Table pairs) (Value-F.Text key) = truth (is_there (pair_with key pairs))
has_at table key = value.Fault Kind

-- `has(t, k)`
abbrev pub has_result : Value → Value → Value
has_result table key = has_at (out-Value table) (out-Value key)

-- `keys(t)`: the list of the keys in the order of the table, which is ascending if the table is well; the error `kind` for other
-- values
abbrev pub keys_at : Value-F Value → Value
keys_at (Value-F.Table pairs) = value.List (map (λ p. value.Text p.0) pairs)
keys_at v = value.Fault Kind

-- `keys(t)`
abbrev pub keys_of : Value → Value
keys_of table = keys_at (out-Value table)

-- whether there is a pair and it has this key
abbrev pub has_key : List ℕ → Option (List ℕ × Value) → Bool
has_key key (Some p) = bytes_eq p.0 key
has_key key None = false

-- i is the index at which a key is or would be in a table: the first i pairs are those with smaller keys. Either the pair at i
-- has the key, and the pairs after it are those with greater keys (`occurs`). Or no pair has the key, and the pairs from i on are
-- those with greater keys (`belongs`).
pub record IsIndex (key : List ℕ) (pairs : List (List ℕ × Value)) (i : ℕ) : Type 0 where
  pub prefix : filter (λ p. is_before p.0 key) pairs ≡ take i pairs
  pub occurs : has_key key (slice_get pairs i) ≡ true
      → (filter (λ q. is_before key q.0) pairs ≡ drop (suc i) pairs) × (pair_with key pairs ≡ slice_get pairs i)
  pub belongs : has_key key (slice_get pairs i) ≡ false
      → (filter (λ q. is_before key q.0) pairs ≡ drop i pairs) × (pair_with key pairs ≡ None)
