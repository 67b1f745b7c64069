-- Parts of well tables.
use mathlib.Core.List.{map-map}
use Rattle.std.proofs.Common.{◌≡◌, ℕ, ◌+◌, ◌≤◌, max, Bool, true, List, [], ◌∷◌, ◌++◌, length, map, sum}
use Rattle.std.proofs.Common.{arith, IfOk, Result}
use Rattle.std.proofs.lemmas.List.{map-append}
use Rattle.std.proofs.lemmas.List.Sums.{sum_by-append, sum_by-cons}
use Rattle.std.specs.Str.{is_utf8}
use Rattle.ag_value.specs.declared.value.Value.TheVariants as v
use Rattle.ag_value.specs.Measure.{depth_of, greatest, weight_of_pair, max_value_depth, max_weight}
use Rattle.ag_value.specs.Well.{IsWell, is_item, is_item_pair, key_of}
use Rattle.ag_value.proofs.Layers.{depth-Table, item-Table, weight-Table}
use Rattle.ag_value.proofs.operations.Growing.{greatest-append}
use Rattle.ag_value.proofs.operations.Tables.{table_parts}
use Rattle.ag_value.proofs.operations.Wells.{formed}
use Rattle.table_tree.proofs.Keys.{Pair, ArePassing, AreSorted, all_passing, ascending, passing, passing_prefix, passing_suffix}
use Rattle.table_tree.proofs.Keys.{sorted, sorted_prefix, sorted_suffix}

abbrev pub depth_of_pair : Pair → ℕ
depth_of_pair p = depth_of p.1

-- whether a key is UTF-8
abbrev pub is_text : Pair → Bool
is_text p = is_utf8 p.0

-- what a table must be to be well
pub record IsTable (pairs : List Pair) : Type 0 where
  pub sorted : AreSorted pairs
  pub texts : ArePassing is_text pairs
  pub items : ArePassing is_item_pair pairs
  pub levels : 1 + greatest (map depth_of_pair pairs) ≤ max_value_depth
  pub bytes : 5 + sum (map weight_of_pair pairs) ≤ max_weight

pub table_of : (pairs : List Pair) → IsWell (v.Table pairs) → IsTable pairs
table_of pairs well =
    let parts = table_parts pairs well in
    record {
      sorted = sorted pairs parts.0;
      texts = passing is_text pairs (rw map-map at parts.1);
      items = passing is_item_pair pairs parts.2;
      levels = omega (arith, depth-Table pairs);
      bytes = omega (arith, weight-Table pairs);
    }

pub well_of : (pairs : List Pair) → IsTable pairs → IsWell (v.Table pairs)
well_of pairs t = record {
  formed =
      formed (v.Table pairs) (cc (
        item-Table pairs,
        map-map is_utf8 key_of pairs,
        ascending pairs t.sorted,
        all_passing is_text pairs t.texts,
        all_passing is_item_pair pairs t.items,
      ));
  shallow = omega (arith, depth-Table pairs);
  light = omega (arith, weight-Table pairs);
}

pub sum_append : (f : Pair → ℕ) (ps qs : List Pair) → sum (map f (ps ++ qs)) ≡ sum (map f ps) + sum (map f qs)
sum_append f ps qs = cc (map-append f ps qs, sum_by-append (λ n. n) (map f ps) (map f qs))

pub sum_cons : (f : Pair → ℕ) (p : Pair) (ps : List Pair) → sum (map f (p ∷ ps)) ≡ f p + sum (map f ps)
sum_cons f p ps = sum_by-cons (λ n. n) (f p) (map f ps)

pub greatest_append : (f : Pair → ℕ) (ps qs : List Pair)
    → greatest (map f (ps ++ qs)) ≡ max (greatest (map f ps)) (greatest (map f qs))
greatest_append f ps qs = cc (map-append f ps qs, greatest-append (map f ps) (map f qs))

-- a part of a well table is a well table
pub well_prefix : (ps qs : List Pair) → IsWell (v.Table (ps ++ qs)) → IsWell (v.Table ps)
well_prefix ps qs well =
    let t = table_of (ps ++ qs) well in
    well_of ps (record {
      sorted = sorted_prefix ps qs t.sorted;
      texts = passing_prefix is_text ps qs t.texts;
      items = passing_prefix is_item_pair ps qs t.items;
      levels = omega (arith, greatest_append depth_of_pair ps qs);
      bytes = omega (arith, sum_append weight_of_pair ps qs);
    })

pub well_suffix : (ps qs : List Pair) → IsWell (v.Table (ps ++ qs)) → IsWell (v.Table qs)
well_suffix ps qs well =
    let t = table_of (ps ++ qs) well in
    well_of qs (record {
      sorted = sorted_suffix ps qs t.sorted;
      texts = passing_suffix is_text ps qs t.texts;
      items = passing_suffix is_item_pair ps qs t.items;
      levels = omega (arith, greatest_append depth_of_pair ps qs);
      bytes = omega (arith, sum_append weight_of_pair ps qs);
    })

-- a table in place of an equal one
pub well_same : {ps qs : List Pair} → IsWell (v.Table ps) → ps ≡ qs → IsWell (v.Table qs)
well_same well e = rw e at well

pub ok_same : {T E : Type 0} (r : Result T E) {a b : T} → IfOk r (λ t. t ≡ a) → a ≡ b → IfOk r (λ t. t ≡ b)
ok_same r h e = rw e at h

pub well_empty : IsWell (v.Table [])
well_empty = well_of [] (record { sorted = tt; texts = tt; items = tt; levels = omega arith; bytes = omega arith })

-- a pair of a well table
pub record IsMember (p : Pair) : Type 0 where
  pub short : length p.0 ≤ max_weight
  pub well : IsWell p.1
  pub item : is_item p.1 ≡ true

pub member : (before : List Pair) (p : Pair) (after : List Pair) → IsWell (v.Table (before ++ p ∷ after)) → IsMember p
member before p after well =
    let t = table_of (p ∷ after) (well_suffix before (p ∷ after) well) in
    let bytes = sum_cons weight_of_pair p after in
    let item : is_item p.1 ≡ true = t.items.0 in
    record {
      short = omega arith;
      well = record { formed = formed p.1 item; shallow = omega arith; light = omega arith };
      item = item;
    }
