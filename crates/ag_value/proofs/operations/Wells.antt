-- Limits of the parts of well values.
use Rattle.std.proofs.Common.{◌≡◌, ◌∙◌, ℕ, ℤ, ◌+◌, ◌^◌, ◌<◌, ◌≤◌, ◌||◌, length, pos, negsuc, zero, suc, slice_get, Some, List, []}
use Rattle.std.proofs.Common.{◌∷◌, Bool, true, false, ◌<◌, nat_lt, map, min, sum, refl, ap, arith, rules, subst, sym}
use mir.Syntax.{w64}
use mir.Val.{of_z, to_z}
use Rattle.std.proofs.lemmas.Int.{ints}
use Rattle.std.proofs.lemmas.Str.{is_utf8-from_IsUtf8}
use Rattle.std.proofs.Math.Bool.{or-true}
use Rattle.std.proofs.lemmas.Fmt.{length_signed_le}
use Rattle.std.specs.Fmt.{signed_decimal}
use Rattle.std.specs.Int.Signed.{mag}
use Rattle.std.specs.Str.{IsUtf8, is_utf8}
use Rattle.ag_value.specs.declared.value.Value.{Value}
use Rattle.ag_value.specs.declared.value.Value.TheVariants as v
use Rattle.std.proofs.lemmas.Bool.{and_parts, lt-ltb}
use Rattle.std.proofs.lemmas.List.Sums.{sum_by-cons}
use Rattle.std.proofs.lemmas.Option.{same_Some}
use Rattle.ag_value.specs.declared.value.ErrorCode.TheVariants.{Big}
use Rattle.ag_value.specs.Measure.{depth_of, greatest, max_value_depth, max_weight, weight_of}
use Rattle.ag_value.specs.operations.Fitting.{fit}
use Rattle.ag_value.specs.operations.Lists.{item_at}
use Rattle.ag_value.proofs.operations.Growing.{items_of}
use Rattle.ag_value.specs.Well.{IsWell, all_true, is_fault, is_item}
use Rattle.ag_value.proofs.Layers.{depth-List, depth-Text, item-Text, weight-List, weight-Table, weight-Text}
use Rattle.ag_value.proofs.Weights.{few_items, few_pairs}

pub short_text : (w : Value) (text : List ℕ) → w ≡ v.Text text → IsWell w → length text ≤ max_weight
short_text w text is well = let light : weight_of (v.Text text) ≤ max_weight =
    subst (λ (u : Value). weight_of u ≤ max_weight) is well.light in omega (arith, light, weight-Text text)

pub short_list : (w : Value) (items : List Value) → w ≡ v.List items → IsWell w → length items ≤ max_weight
short_list w items is well = let light : weight_of (v.List items) ≤ max_weight =
    subst (λ (u : Value). weight_of u ≤ max_weight) is well.light in omega (arith, light, weight-List items, few_items items)

pub short_table : (w : Value) (pairs : List (List ℕ × Value)) → w ≡ v.Table pairs → IsWell w → length pairs ≤ max_weight
short_table w pairs is well = let light : weight_of (v.Table pairs) ≤ max_weight =
    subst (λ (u : Value). weight_of u ≤ max_weight) is well.light in omega (arith, light, weight-Table pairs, few_pairs pairs)

-- a value that is allowed in a list satisfies the clause `formed` of `IsWell`
pub formed : (w : Value) → is_item w ≡ true → (is_fault w || is_item w) ≡ true
formed w item = rw item (or-true (is_fault w))

-- a text is well if it is UTF-8 and has at most 1,048,571 bytes
pub well_text : (text : List ℕ) → is_utf8 text ≡ true → length text ≤ 1048571 → IsWell (v.Text text)
well_text text utf8 short = record {
  formed = formed (v.Text text) (item-Text text ∙ utf8);
  shallow = let d = depth-Text text in omega (arith, d);
  light = let w = weight-Text text in omega (arith, w);
}

-- a number in decimal is short
pub decimal_short : (z : ℤ) → mag z < 2 ^ 63 → length (signed_decimal z) ≤ 1048571
decimal_short z within = let e = length_signed_le 19 z (omega arith) within in omega (arith, e)

-- an i64 is n or -n - 1 for a number n below 2^63; this n is its `mag`
pub within_width : (z : ℤ) → mag (to_z w64 (of_z w64 z)) < 2 ^ 63
within_width z = first_of (search rules, omega (arith, ints), grind (arith, ints))

-- the decimal text of an i64 is well
pub well_decimal : (text : List ℕ) (z : ℤ) → text ≡ signed_decimal (to_z w64 (of_z w64 z)) → IsUtf8 text → IsWell (v.Text text)
well_decimal text z is utf8 =
    let short : length (signed_decimal (to_z w64 (of_z w64 z))) ≤ 1048571 = decimal_short _ (within_width z) in
    well_text text (is_utf8-from_IsUtf8 text utf8) (subst (λ t. length t ≤ 1048571) (sym is) short)

pub ruleset short = (short_text, short_list, short_table)

-- a test that holds for a whole list holds for each member
pub all_in : {A : Type 0} (f : A → Bool) (xs : List A) (k : ℕ) (x : A) → all_true (map f xs) ≡ true → slice_get xs k ≡ Some x
    → f x ≡ true
all_in f [] k x all here = let bad : ⊥ = cc in absurd bad
all_in f (y ∷ ys) zero x all here = subst (λ z. f z ≡ true) (same_Some y x here) (and_parts (f y) (all_true (map f ys)) all).0
all_in f (y ∷ ys) (suc k) x all here = all_in f ys k x (and_parts (f y) (all_true (map f ys)) all).1 here

pub sum_in : {A : Type 0} (f : A → ℕ) (xs : List A) (k : ℕ) (x : A) → slice_get xs k ≡ Some x → f x ≤ sum (map f xs)
sum_in f [] k x here = let bad : ⊥ = cc in absurd bad
sum_in f (y ∷ ys) zero x here = let e = ap f (same_Some y x here) in let p = sum_by-cons (λ n. n) (f y) (map f ys) in
    omega (arith, e, p)
sum_in f (y ∷ ys) (suc k) x here = let e = sum_in f ys k x here in let p = sum_by-cons (λ n. n) (f y) (map f ys) in
    omega (arith, e, p)

pub greatest_in : {A : Type 0} (f : A → ℕ) (xs : List A) (k : ℕ) (x : A) → slice_get xs k ≡ Some x → f x ≤ greatest (map f xs)
greatest_in f [] k x here = let bad : ⊥ = cc in absurd bad
greatest_in f (y ∷ ys) zero x here = let e = ap f (same_Some y x here) in omega (arith, e)
greatest_in f (y ∷ ys) (suc k) x here = let e = greatest_in f ys k x here in omega (arith, e)

-- the items of a well list are well
pub well_item : (w : Value) (items : List Value) (k : ℕ) (item : Value) → w ≡ v.List items → IsWell w
    → slice_get items k ≡ Some item → IsWell item
well_item w items k item is well here =
    let whole : IsWell (v.List items) = subst IsWell is well in
    let light = whole.light in
    let shallow = whole.shallow in
    record {
      formed = formed item (all_in is_item items k item (items_of items whole) here);
      shallow = let a = greatest_in depth_of items k item here in let e = depth-List items in omega arith;
      light = let a = sum_in weight_of items k item here in let e = weight-List items in omega arith;
    }

-- an item of a well list that `nth` returns is well
pub well_nth : (w : Value) (items : List Value) (place : ℤ) (item : Value) → w ≡ v.List items → IsWell w
    → item_at items place ≡ Some item → IsWell item
well_nth w items (pos k) item is well here = well_item w items k item is well here
well_nth w items (negsuc k) item is well here = let bad : ⊥ = cc in absurd bad

-- a text that is too long becomes the error `big`
pub big_text : (text : List ℕ) (n : ℕ) → n ≡ min (length text) 18446744073709551615
    → max_weight < min (5 + n) 18446744073709551615 → fit (v.Text text) ≡ v.Fault Big
big_text text n is long =
    let flat : nat_lt max_value_depth (depth_of (v.Text text)) ≡ false = rw (depth-Text text) refl in
    let heavy : nat_lt max_weight (weight_of (v.Text text)) ≡ true =
    lt-ltb max_weight (weight_of (v.Text text)) (let e = weight-Text text in omega arith) in
    rw (flat, heavy) refl
