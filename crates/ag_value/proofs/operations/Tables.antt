-- Limits of the parts of well tables.
use Rattle.std.proofs.Common.{◌≡◌, ℕ, zero, suc, ◌≤◌, Bool, true, false, ◌&&◌, cond, List, [], ◌∷◌, map, sum, find, slice_get}
use Rattle.std.proofs.Common.{bytes_eq, Some, refl, sym, ◌∙◌, subst, arith}
use Rattle.std.proofs.lemmas.Bool.{and_parts}
use Rattle.std.proofs.lemmas.List.Sums.{sum_by-cons}
use Rattle.std.specs.Str.{is_utf8}
use Rattle.ag_value.specs.declared.value.Value.{Value}
use Rattle.ag_value.specs.declared.value.Value.TheVariants as v
use Rattle.ag_value.specs.declared.value.Value.TheVariants.{outs-Table}
use Rattle.ag_value.specs.Measure.{depth_of, greatest, weight_of, weight_of_pair}
use Rattle.ag_value.specs.Well.{IsWell, all_true, are_keys, is_item, is_item_pair, is_ascending, key_of}
use Rattle.ag_value.proofs.Layers.{depth-List, depth-Table, depth-Text, item-List, item-Table, item-Text, weight-List}
use Rattle.ag_value.proofs.Layers.{weight-Table, weight-Text}
use Rattle.ag_value.proofs.Weights.{weight_positive}
use Rattle.ag_value.specs.operations.Tables.{pair_with}
use Rattle.ag_value.proofs.operations.Growing.{item_of}
use Rattle.ag_value.proofs.operations.Wells.{all_in, formed, greatest_in, sum_in}

abbrev pub Pair : Type 0
Pair = List ℕ × Value

-- a well table is allowed in a list
pub item_table : (pairs : List Pair) → IsWell (v.Table pairs) → is_item (v.Table pairs) ≡ true
item_table pairs well = item_of (v.Table pairs) well (cc (outs-Table pairs))

-- the keys of a well table ascend and are UTF-8, and its values are allowed in it
pub table_parts : (pairs : List Pair) → IsWell (v.Table pairs)
    → (is_ascending (map key_of pairs) ≡ true) × (all_true (map is_utf8 (map key_of pairs)) ≡ true)
    × (all_true (map is_item_pair pairs) ≡ true)
table_parts pairs well =
    let whole : (are_keys (map key_of pairs) && all_true (map is_item_pair pairs)) ≡ true =
    sym (item-Table pairs) ∙ item_table pairs well in
    let parts = and_parts (are_keys (map key_of pairs)) (all_true (map is_item_pair pairs)) whole in
    let keys = and_parts (is_ascending (map key_of pairs)) (all_true (map is_utf8 (map key_of pairs))) parts.0 in
    (keys.0, keys.1, parts.1)

pub rising_table : (w : Value) (pairs : List Pair) → w ≡ v.Table pairs → IsWell w → is_ascending (map key_of pairs) ≡ true
rising_table w pairs is well = (table_parts pairs (subst IsWell is well)).0

-- a member that `find` returns has an index in the list
found_at : {A : Type 0} (test : A → Bool) (xs : List A) (x : A) → find test xs ≡ Some x → (k : ℕ) × (slice_get xs k ≡ Some x)
found_at test [] x here = let bad : ⊥ = cc in absurd bad
found_at test (y ∷ ys) x here = go (test y) here (found_at test ys x)
  where
    go : (b : Bool) → cond b (Some y) (find test ys) ≡ Some x → (find test ys ≡ Some x → (k : ℕ) × (slice_get ys k ≡ Some x))
        → (k : ℕ) × (slice_get (y ∷ ys) k ≡ Some x)
    go true e rest = (zero, e)
    go false e rest = let p = rest e in (suc p.0, p.1)

pub well_pair : (pairs : List Pair) (k : ℕ) (p : Pair) → IsWell (v.Table pairs) → slice_get pairs k ≡ Some p → IsWell p.1
well_pair pairs k p well here =
    let light = well.light in
    let shallow = well.shallow in
    record {
      formed = formed p.1 (all_in is_item_pair pairs k p (table_parts pairs well).2 here);
      shallow = let a = greatest_in (λ (q : Pair). depth_of q.1) pairs k p here in let e = depth-Table pairs in omega arith;
      light = let a = sum_in weight_of_pair pairs k p here in let e = weight-Table pairs in omega arith;
    }

pub well_got : (w : Value) (pairs : List Pair) (key : List ℕ) (p : Pair) → w ≡ v.Table pairs → IsWell w
    → pair_with key pairs ≡ Some p → IsWell p.1
well_got w pairs key p is well here =
    let at = found_at (λ (q : Pair). bytes_eq q.0 key) pairs p here in
    well_pair pairs at.0 p (subst IsWell is well) at.1

-- the list of the keys of a well table is within the limits
abbrev key_text : Pair → Value
key_text p = v.Text p.0

key_items : (pairs : List Pair) → all_true (map is_utf8 (map key_of pairs)) ≡ true
    → all_true (map is_item (map key_text pairs)) ≡ true
key_items [] all = refl
key_items (p ∷ ps) all =
    let parts = and_parts (is_utf8 p.0) (all_true (map is_utf8 (map key_of ps))) all in
    rw (item-Text p.0, parts.0) (key_items ps parts.1)

key_weights : (pairs : List Pair) → sum (map weight_of (map key_text pairs)) ≤ sum (map weight_of_pair pairs)
key_weights [] = omega arith
key_weights (p ∷ ps) =
    let rest = key_weights ps in
    let one = sum_by-cons (λ n. n) (weight_of (v.Text p.0)) (map weight_of (map key_text ps)) in
    let other = sum_by-cons (λ n. n) (weight_of_pair p) (map weight_of_pair ps) in
    let text = weight-Text p.0 in
    let some = weight_positive p.1 in
    omega arith

key_depths : (pairs : List Pair) → greatest (map depth_of (map key_text pairs)) ≡ 0
key_depths [] = refl
key_depths (p ∷ ps) = let rest = key_depths ps in let here = depth-Text p.0 in omega arith

pub well_keys : (w : Value) (pairs : List Pair) (keys : List Value) → w ≡ v.Table pairs → IsWell w → keys ≡ map key_text pairs
    → IsWell (v.List keys)
well_keys w pairs keys is well same = subst (λ (vs : List Value). IsWell (v.List vs)) (sym same) (
    let whole : IsWell (v.Table pairs) = subst IsWell is well in
    let light = whole.light in
    record {
      formed =
          formed (v.List (map key_text pairs)) (item-List (map key_text pairs) ∙ key_items pairs (table_parts pairs whole).1);
      shallow = let e = depth-List (map key_text pairs) in let d = key_depths pairs in omega arith;
      light = let e = weight-List (map key_text pairs) in let d = key_weights pairs in let t = weight-Table pairs in omega arith;
    })
