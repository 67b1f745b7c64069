-- The weight and the depth of a list that is made of two lists, or of a list and one more item.
use Rattle.std.proofs.Common.{◌≡◌, ℕ, ◌+◌, ◌-◌, max, min, Bool, true, false, List, [], ◌∷◌, ◌++◌, map, sum, None, refl, sym}
use Rattle.std.proofs.Common.{ap, ◌∙◌, subst, arith}
use Rattle.std.proofs.lemmas.Bool.{and_parts}
use Rattle.std.proofs.lemmas.List.{map-append}
use Rattle.std.proofs.lemmas.List.Sums.{sum_by-append}
use Rattle.ag_value.specs.declared.value.Value.{Value, out-Value, roll-Value, roll-out-Value}
use Rattle.ag_value.specs.declared.value.Value.TheOpen.{Value-F}
use Rattle.ag_value.specs.declared.value.Value.TheFolds.{fold-roll-Value}
use Rattle.ag_value.specs.declared.value.Value.TheVariants as v
use Rattle.ag_value.specs.declared.value.Value.TheVariants.{rolls-List}
use Rattle.ag_value.specs.Measure.{depth_of, greatest, weight_of}
use Rattle.ag_value.specs.Well.{IsWell, all_true, fault_step, is_fault, is_item}
use Rattle.ag_value.proofs.Layers.{depth-List, item-List, weight-List}
use Rattle.ag_value.specs.operations.Arguments.{fault_at, fault_of}
use Rattle.ag_value.specs.operations.Fitting.{IsGathered}

no_fault-List : (items : List Value) → is_fault (v.List items) ≡ false
no_fault-List items = cc (rolls-List items, fold-roll-Value Bool fault_step (Value-F.List items))

-- the items of a well list are allowed in a list
pub items_of : (items : List Value) → IsWell (v.List items) → all_true (map is_item items) ≡ true
items_of items well = cc (item-List items, no_fault-List items)

pub all_true-append : (xs ys : List Bool) → all_true xs ≡ true → all_true ys ≡ true → all_true (xs ++ ys) ≡ true
all_true-append [] ys h k = k
all_true-append (x ∷ xs) ys h k = let p = and_parts x (all_true xs) h in rw (p.0, all_true-append xs ys p.1 k) refl

pub greatest-append : (xs ys : List ℕ) → greatest (xs ++ ys) ≡ max (greatest xs) (greatest ys)
greatest-append [] ys = omega arith
greatest-append (x ∷ xs) ys = let e = greatest-append xs ys in omega (arith, e)

pub sum-append : (xs ys : List ℕ) → sum (xs ++ ys) ≡ sum xs + sum ys
sum-append xs ys = sum_by-append (λ n. n) xs ys

-- the concatenation of two lists
pub item-together : (xs ys : List Value) → all_true (map is_item xs) ≡ true → all_true (map is_item ys) ≡ true
    → is_item (v.List (xs ++ ys)) ≡ true
item-together xs ys h k =
    cc (item-List (xs ++ ys), map-append is_item xs ys, all_true-append (map is_item xs) (map is_item ys) h k)

pub weight-together : (xs ys : List Value) → weight_of (v.List (xs ++ ys)) + 5 ≡ weight_of (v.List xs) + weight_of (v.List ys)
weight-together xs ys =
    let parts : sum (map weight_of (xs ++ ys)) ≡ sum (map weight_of xs) + sum (map weight_of ys) =
    ap sum (map-append weight_of xs ys) ∙ sum-append (map weight_of xs) (map weight_of ys) in
    omega (arith, parts, weight-List (xs ++ ys), weight-List xs, weight-List ys)

pub depth-together : (xs ys : List Value) → depth_of (v.List (xs ++ ys)) ≡ max (depth_of (v.List xs)) (depth_of (v.List ys))
depth-together xs ys =
    let parts : greatest (map depth_of (xs ++ ys)) ≡ max (greatest (map depth_of xs)) (greatest (map depth_of ys)) =
    cc (map-append depth_of xs ys, greatest-append (map depth_of xs) (map depth_of ys)) in
    omega (arith, parts, depth-List (xs ++ ys), depth-List xs, depth-List ys)

-- the weight of a list of one item
pub weight-one : (x : Value) → weight_of (v.List (x ∷ [])) ≡ 5 + weight_of x
weight-one x = weight-List (x ∷ []) ∙ omega arith

pub depth-one : (x : Value) → depth_of (v.List (x ∷ [])) ≡ 1 + depth_of x
depth-one x = depth-List (x ∷ []) ∙ omega arith

-- `fault_at` and `is_fault` agree on values that are not errors
no_fault : (x : Value-F Value) → fault_at x ≡ None → is_fault (roll-Value x) ≡ false
no_fault (Value-F.Num n) sound = fold-roll-Value Bool fault_step (Value-F.Num n)
no_fault (Value-F.Text text) sound = fold-roll-Value Bool fault_step (Value-F.Text text)
no_fault (Value-F.List items) sound = fold-roll-Value Bool fault_step (Value-F.List items)
no_fault (Value-F.Table pairs) sound = fold-roll-Value Bool fault_step (Value-F.Table pairs)
no_fault (Value-F.Fault code) sound = let bad : ⊥ = cc in absurd bad

pub item_of : (w : Value) → IsWell w → fault_of w ≡ None → is_item w ≡ true
item_of w well sound =
    let other : is_fault w ≡ false =
    subst (λ (u : Value). is_fault u ≡ false) (roll-out-Value w) (no_fault (out-Value w) sound) in cc

-- the concatenation of two well lists: a list may contain its items, and its weight and depth as the code counts them
pub fits-together : (xs ys zs : List Value) (weight depth : ℕ) → zs ≡ xs ++ ys → IsWell (v.List xs) → IsWell (v.List ys)
    → weight ≡ weight_of (v.List xs) + weight_of (v.List ys) → depth ≡ max (depth_of (v.List xs)) (depth_of (v.List ys))
    → (is_item (v.List zs) ≡ true) × (weight - 5 ≡ min (weight_of (v.List zs)) 18446744073709551615)
    × (depth ≡ min (depth_of (v.List zs)) 4294967295)
fits-together xs ys zs weight depth is well well' heavy deep = rw is (
  item-together xs ys (items_of xs well) (items_of ys well'),
  (let a = well.light in let b = well'.light in let e = weight-together xs ys in omega arith),
  (let a = well.shallow in let b = well'.shallow in let e = depth-together xs ys in omega arith),
)

-- the same for a well list with one more item
pub fits-pushed : (xs zs : List Value) (x : Value) (weight depth : ℕ) → zs ≡ xs ++ x ∷ [] → IsWell (v.List xs) → IsWell x
    → fault_of x ≡ None
    → weight ≡ weight_of (v.List xs) + weight_of x → depth ≡ max (depth_of (v.List xs)) (1 + depth_of x)
    → (is_item (v.List zs) ≡ true) × (weight ≡ min (weight_of (v.List zs)) 18446744073709551615)
    × (depth ≡ min (depth_of (v.List zs)) 4294967295)
fits-pushed xs zs x weight depth is well well' sound heavy deep = rw is (
  item-together xs (x ∷ []) (items_of xs well) (rw (item_of x well' sound) refl),
  (let a = well.light in let b = well'.light in let e = weight-together xs (x ∷ []) in let f = weight-one x in omega arith),
  (let a = well.shallow in let b = well'.shallow in let e = depth-together xs (x ∷ []) in let f = depth-one x in omega arith),
)

-- if items are gathered (`IsGathered`), they are so with one more item
pub gathers : (xs zs : List Value) (x : Value) (weight depth weight' depth' : ℕ) → zs ≡ xs ++ x ∷ [] → IsGathered xs weight depth
    → IsWell x → fault_of x ≡ None
    → weight' ≡ min (weight + weight_of x) 18446744073709551615 → depth' ≡ max depth (depth_of x + 1)
    → IsGathered zs weight' depth'
gathers xs zs x weight depth weight' depth' is so_far well sound heavy deep =
    subst (λ (ys : List Value). IsGathered ys weight' depth') (sym is) (record {
      item = item-together xs (x ∷ []) (cc (item-List xs)) (rw (item_of x well sound) refl);
      weight_is = let a = so_far.weight_is in let b = well.light in let e = weight-together xs (x ∷ []) in let f = weight-one x in
          omega arith;
      depth_is = let a = so_far.depth_is in let b = well.shallow in let e = depth-together xs (x ∷ []) in let f = depth-one x in
          omega arith;
    })
