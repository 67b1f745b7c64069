-- A table with a pair added.
use Rattle.ag_eval.proofs.Common
use Common.{◌≡◌, ℕ, zero, suc, ◌+◌, ◌<◌, ◌≤◌, max, min, Bool, true, false, cond, List, [], ◌∷◌, ◌++◌, length, map, sum, get_or}
use Common.{pos, set, take, drop, filter, slice_get, Some, refl, sym, ap, ◌∙◌, arith, and_parts, map-append, same_Some}
use Common.{slice_get-get_or, bytes_eq-Decides, insert, is_utf8, Value, IsWell, all_true, are_keys, is_before, is_item}
use Common.{is_item_pair, is_ascending, key_of, IsIndex, has_key, with_pair, all_true-append, Pair, item_table, table_parts}
use mathlib.Core.List.{map-map}
use Rattle.std.proofs.lemmas.List.Sums.{sum_by-cons}
use Rattle.ag_value.specs.declared.value.Value.TheVariants as v
use Rattle.ag_value.specs.Measure.{depth_of, greatest, weight_of, weight_of_pair}
use Rattle.ag_value.proofs.Layers.{depth-Table, item-Table, weight-Table}
use Rattle.ag_eval.proofs.Keys.{rising_with}

-- a property of all elements holds of those that pass a test
all_filter : {A : Type 0} (f test : A → Bool) (xs : List A) → all_true (map f xs) ≡ true
    → all_true (map f (filter test xs)) ≡ true
all_filter f test [] all = refl
all_filter f test (x ∷ xs) all = go (test x) (all_filter f test xs (and_parts (f x) (all_true (map f xs)) all).1)
  where
    go : (b : Bool) → all_true (map f (filter test xs)) ≡ true
        → all_true (map f (cond b (x ∷ filter test xs) (filter test xs))) ≡ true
    go true rest = rw ((and_parts (f x) (all_true (map f xs)) all).0, rest) refl
    go false rest = rest

all_with : (f : Pair → Bool) (key : List ℕ) (x : Value) (pairs : List Pair) → f (key, x) ≡ true → all_true (map f pairs) ≡ true
    → all_true (map f (with_pair key x pairs)) ≡ true
all_with f key x pairs here all =
    let prefix : List Pair = filter (λ (p : Pair). is_before p.0 key) pairs in
    let back : List Pair = filter (λ (p : Pair). is_before key p.0) pairs in
    let rest : all_true (map f back) ≡ true = all_filter f (λ (p : Pair). is_before key p.0) pairs all in
    ap all_true (map-append f prefix ((key, x) ∷ back))
    ∙ all_true-append (map f prefix) (f (key, x) ∷ map f back) (all_filter f (λ (p : Pair). is_before p.0 key) pairs all)
    (rw (here, rest) refl)

-- a well table with a pair added can be an item of a list
pub item_with : (key : List ℕ) (x : Value) (pairs : List Pair) → IsWell (v.Table pairs) → is_utf8 key ≡ true → is_item x ≡ true
    → is_item (v.Table (with_pair key x pairs)) ≡ true
item_with key x pairs well utf8 item =
    let growth_result : List Pair = with_pair key x pairs in
    let parts = table_parts pairs well in
    let rising : is_ascending (map key_of growth_result) ≡ true = rising_with key x pairs parts.0 in
    let texts : all_true (map is_utf8 (map key_of growth_result)) ≡ true =
    ap all_true (map-map is_utf8 key_of growth_result)
    ∙ all_with (λ p. is_utf8 p.0) key x pairs utf8 (ap all_true (sym (map-map is_utf8 key_of pairs)) ∙ parts.1) in
    let items : all_true (map is_item_pair growth_result) ≡ true = all_with is_item_pair key x pairs item parts.2 in
    let keys : are_keys (map key_of growth_result) ≡ true = rw (rising, texts) refl in
    item-Table growth_result ∙ rw (keys, items) refl

-- a pair with a new key is inserted at the key's index
pub inserts : (key : List ℕ) (x : Value) (pairs : List Pair) (i : ℕ) → IsIndex key pairs i
    → has_key key (slice_get pairs i) ≡ false → with_pair key x pairs ≡ insert pairs i (key, x)
inserts key x pairs i index_is none = rw (index_is.prefix, (index_is.belongs none).0) refl

set_split : {A : Type 0} (xs : List A) (i : ℕ) (y : A) → i < length xs → set xs i y ≡ take i xs ++ y ∷ drop (suc i) xs
set_split [] i y lt = absurd (omega arith)
set_split (x ∷ xs) zero y lt = refl
set_split (x ∷ xs) (suc i) y lt = ap (λ (zs : List _). x ∷ zs) (set_split xs i y (omega arith))

pub replaces : (key : List ℕ) (x : Value) (pairs : List Pair) (i : ℕ) (p : Pair) → i < length pairs → IsIndex key pairs i
    → slice_get pairs i ≡ Some p → has_key key (slice_get pairs i) ≡ true → with_pair key x pairs ≡ set pairs i (p.0, x)
replaces key x pairs i p lt index_is at here =
    let same : p.0 ≡ key = (bytes_eq-Decides p.0 key).0 (sym (ap (has_key key) at) ∙ here) in
    rw (index_is.prefix, (index_is.occurs here).0)
    (sym (set_split pairs i (p.0, x) lt ∙ ap (λ k. take i pairs ++ (k, x) ∷ drop (suc i) pairs) same))

sum_insert : {A : Type 0} (f : A → ℕ) (xs : List A) (i : ℕ) (y : A) → sum (map f (insert xs i y)) ≡ sum (map f xs) + f y
sum_insert f xs zero y = let e = sum_by-cons (λ n. n) (f y) (map f xs) in omega arith
sum_insert f [] (suc i) y = omega arith
sum_insert f (x ∷ xs) (suc i) y =
    let rest = sum_insert f xs i y in
    let e = sum_by-cons (λ n. n) (f x) (map f (insert xs i y)) in
    let d = sum_by-cons (λ n. n) (f x) (map f xs) in
    omega arith

greatest_insert : {A : Type 0} (f : A → ℕ) (xs : List A) (i : ℕ) (y : A)
    → greatest (map f (insert xs i y)) ≡ max (greatest (map f xs)) (f y)
greatest_insert f xs zero y = omega arith
greatest_insert f [] (suc i) y = omega arith
greatest_insert f (x ∷ xs) (suc i) y = let rest = greatest_insert f xs i y in omega arith

-- the premises of `fit` on a table with one more pair
pub fits-inserted : (pairs growth_result : List Pair) (i : ℕ) (key : List ℕ) (x : Value) (weight depth : ℕ)
    → growth_result ≡ insert pairs i (key, x) → IsWell (v.Table pairs) → IsWell x → length key ≤ 1048576
    → weight ≡ weight_of (v.Table pairs) + 4 + length key + weight_of x → depth ≡ max (depth_of (v.Table pairs)) (depth_of x + 1)
    → (weight ≡ min (weight_of (v.Table growth_result)) 18446744073709551615)
    × (depth ≡ min (depth_of (v.Table growth_result)) 4294967295)
fits-inserted pairs growth_result i key x weight depth is well well' short heavy deep = rw is (
  (let a = well.light in let b = well'.light in let e = weight-Table (insert pairs i (key, x)) in let d = weight-Table pairs in
      let s = sum_insert weight_of_pair pairs i (key, x) in omega arith),
  (let a = well.shallow in let b = well'.shallow in let e = depth-Table (insert pairs i (key, x)) in let d = depth-Table pairs in
      let s = greatest_insert (λ (p : Pair). depth_of p.1) pairs i (key, x) in omega arith),
)

-- a well table with another value at a key can be an item of a list
keys_set : (pairs : List Pair) (i : ℕ) (p : Pair) (x : Value) → slice_get pairs i ≡ Some p
    → map key_of (set pairs i (p.0, x)) ≡ map key_of pairs
keys_set [] i p x at = refl
keys_set (q ∷ qs) zero p x at = ap (λ (y : Pair). y.0 ∷ map key_of qs) (sym (same_Some q p at))
keys_set (q ∷ qs) (suc i) p x at = ap (λ ks. q.0 ∷ ks) (keys_set qs i p x at)

items_set : (pairs : List Pair) (i : ℕ) (k : List ℕ) (x : Value) → is_item x ≡ true → all_true (map is_item_pair pairs) ≡ true
    → all_true (map is_item_pair (set pairs i (k, x))) ≡ true
items_set [] i k x item all = refl
items_set (q ∷ qs) zero k x item all = rw (item, (and_parts (is_item_pair q) (all_true (map is_item_pair qs)) all).1) refl
items_set (q ∷ qs) (suc i) k x item all =
    let parts = and_parts (is_item_pair q) (all_true (map is_item_pair qs)) all in
    rw (parts.0, items_set qs i k x item parts.1) refl

pub item_set : (pairs changed : List Pair) (i : ℕ) (x : Value) → i < length pairs
    → ((p : Pair) → slice_get pairs i ≡ Some p → changed ≡ set pairs i (p.0, x)) → IsWell (v.Table pairs) → is_item x ≡ true
    → is_item (v.Table changed) ≡ true
item_set pairs changed i x lt is well item =
    let d : Pair = ([], v.Num (pos 0)) in
    let p : Pair = get_or pairs i d in
    let at : slice_get pairs i ≡ Some p = slice_get-get_or pairs i d lt in
    let whole = item_table pairs well in
    let parts = and_parts (are_keys (map key_of pairs)) (all_true (map is_item_pair pairs)) (sym (item-Table pairs) ∙ whole) in
    let items = items_set pairs i p.0 x item parts.1 in
    ap (λ (ps : List Pair). is_item (v.Table ps)) (is p at) ∙ item-Table (set pairs i (p.0, x))
    ∙ rw (keys_set pairs i p x at, parts.0, items) refl

pub replaced_is : (pairs changed : List Pair) (i : ℕ) (x : Value) → i < length pairs
    → ((p : Pair) → slice_get pairs i ≡ Some p → changed ≡ set pairs i (p.0, x)) → (key : List ℕ) → IsIndex key pairs i
    → has_key key (slice_get pairs i) ≡ true → changed ≡ with_pair key x pairs
replaced_is pairs changed i x lt is key index_is here =
    let d : Pair = ([], v.Num (pos 0)) in
    let p : Pair = get_or pairs i d in
    let at : slice_get pairs i ≡ Some p = slice_get-get_or pairs i d lt in
    is p at ∙ sym (replaces key x pairs i p lt index_is at here)

-- if the pair at an index has the key, the index is within the table
pub within : (key : List ℕ) (pairs : List Pair) (i : ℕ) → has_key key (slice_get pairs i) ≡ true → i < length pairs
within key [] i here = let bad : ⊥ = cc in absurd bad
within key (q ∷ qs) zero here = omega arith
within key (q ∷ qs) (suc i) here = let e = within key qs i here in omega arith
