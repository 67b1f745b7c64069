-- The laws of the results of operations, and lemmas for the worked examples.
use Rattle.ag_grammar.proofs.Common
use Common.{◌≡◌, ◌≤◌, ◌||◌, ℕ, ℤ, pos, Bool, true, false, nat_lt, bytes_eq, List, Option, Some, None, refl, sym, ap, ◌∙◌, subst}
use Common.{arith, lt-ltb, ltb-true, bytes_eq-Decides, Value, out-Value, roll-Value, roll-out-Value, outs-Num, rolls-Fault}
use Common.{rolls-Table, spelling_of, fit}
use Rattle.ag_value.specs.declared.value.ErrorCode.{ErrorCode}
use Rattle.ag_value.specs.declared.value.ErrorCode.TheVariants as code
use Rattle.ag_value.specs.declared.value.Value.TheOpen.{Value-F}
use Rattle.ag_value.specs.declared.value.Value.TheVariants as value
use Rattle.ag_value.specs.declared.value.Value.TheFolds.{fold-roll-Value}
use Rattle.ag_value.proofs.Layers.{depth-Num, weight-Fault, weight-Num}
use Rattle.ag_value.specs.Measure.{depth_of, depth_step, max_value_depth, max_weight, weight_of}
use Rattle.ag_value.specs.Well.{IsWell, fault_step, is_fault, is_item}
use Rattle.ag_value.specs.operations.Arguments.{truth}
use Rattle.ag_grammar.specs.values.Laws.{BigComesNext, DeepComesFirst, GetIsWell, KeysAreWell, SameIsOne, WhatFitsStays}
use Rattle.ag_value.specs.operations.Tables.{get_at, keys_at, pair_with}
use Rattle.ag_grammar.proofs.values.Same.{one_value}
use Rattle.ag_value.proofs.operations.Tables.{well_got, well_keys}

not_above : (m n : ℕ) → n ≤ m → nat_lt m n ≡ false
not_above m n le = go (nat_lt m n) refl
  where
    go : (b : Bool) → nat_lt m n ≡ b → b ≡ false
    go false e = refl
    go true e = let lt = ltb-true m n e in absurd (omega (arith, lt, le))

pub deep_first : DeepComesFirst
deep_first v deep = rw (lt-ltb max_value_depth (depth_of v) deep) refl

pub big_next : BigComesNext
big_next v shallow big = rw (not_above max_value_depth (depth_of v) shallow, lt-ltb max_weight (weight_of v) big) refl

pub fits : WhatFitsStays
fits v shallow light = rw (not_above max_value_depth (depth_of v) shallow, not_above max_weight (weight_of v) light) refl

one_is_true : (b : Bool) → truth b ≡ value.Num (pos 1) → b ≡ true
one_is_true true e = refl
one_is_true false e = let numbers : Value-F.Num (pos 0) ≡ Value-F.Num (pos 1) =
    sym (outs-Num (pos 0)) ∙ ap out-Value e ∙ outs-Num (pos 1) in let bad : ⊥ = cc in absurd bad

pub same_is_one : SameIsOne
same_is_one v w well well' = (
  (λ one. one_value v w well well'
      ((bytes_eq-Decides (spelling_of v) (spelling_of w)).0 (one_is_true (bytes_eq (spelling_of v) (spelling_of w)) one))),
  (λ same. ap truth ((bytes_eq-Decides (spelling_of v) (spelling_of w)).1 (ap spelling_of same))),
)

-- an error is well
well_fault : (c : ErrorCode) → IsWell (value.Fault c)
well_fault c = record {
  formed =
      ap (λ b. b || is_item (value.Fault c))
      (ap is_fault (sym (rolls-Fault c)) ∙ fold-roll-Value Bool fault_step (Value-F.Fault c));
  shallow = let d = ap depth_of (sym (rolls-Fault c)) ∙ fold-roll-Value ℕ depth_step (Value-F.Fault c) in omega (arith, d);
  light = let e = weight-Fault c in omega (arith, e);
}

keys_layer : (x : Value-F Value) → IsWell (roll-Value x) → IsWell (keys_at x)
keys_layer (Value-F.Num n) well = well_fault code.Kind
keys_layer (Value-F.Text text) well = well_fault code.Kind
keys_layer (Value-F.List items) well = well_fault code.Kind
keys_layer (Value-F.Table pairs) well = well_keys (value.Table pairs) pairs _ refl (subst IsWell (rolls-Table pairs) well) refl
keys_layer (Value-F.Fault c) well = well_fault code.Kind

pub keys_are_well : KeysAreWell
keys_are_well table well = keys_layer (out-Value table) (subst IsWell (sym (roll-out-Value table)) well)

got_layer : (x y : Value-F Value) → IsWell (roll-Value x) → IsWell (get_at x y)
got_layer (Value-F.Table pairs) (Value-F.Text key) well = go (pair_with key pairs) refl
  where
    go : (o : Option (List ℕ × Value)) → pair_with key pairs ≡ o → IsWell (get_at (Value-F.Table pairs) (Value-F.Text key))
    go (Some p) e = rw e (well_got (value.Table pairs) pairs key p refl (subst IsWell (rolls-Table pairs) well) e)
    go None e = rw e (well_fault code.Key)
got_layer x y well = well_fault code.Kind

pub got_is_well : GetIsWell
got_is_well table key well = got_layer (out-Value table) (out-Value key) (subst IsWell (sym (roll-out-Value table)) well)

-- a number is within the limits
pub fit_number : (n : ℤ) → fit (value.Num n) ≡ value.Num n
fit_number n = rw (depth-Num n, weight-Num n) refl
