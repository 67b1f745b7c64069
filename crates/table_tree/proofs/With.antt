-- A table in which a key has a value, by the parts of the table.
use Rattle.std.proofs.Common.{◌≡◌, ℕ, ◌+◌, ◌<◌, ◌≤◌, Bool, true, false, cond, List, [], ◌∷◌, ◌++◌, length, map, sum, filter, find}
use Rattle.std.proofs.Common.{max, Option, Some, None, refl, ap, append_assoc, arith, length-append}
use Rattle.std.proofs.lemmas.Bool.{cond_both}
use Rattle.std.proofs.lemmas.List.{append-nil}
use Rattle.std.proofs.lemmas.List.Elements.{filter-append}
use Rattle.std.proofs.lemmas.List.Folds.{find-append}
use Rattle.std.specs.Option.{option_or}
use Rattle.std.specs.Str.{is_utf8}
use Rattle.std.specs.declared.cmp.Ordering.TheVariants.{Less, Equal, Greater}
use Rattle.ag_value.specs.declared.value.Value.{Value}
use Rattle.ag_value.specs.declared.value.Value.TheVariants as v
use Rattle.ag_value.specs.Measure.{greatest}
use Rattle.ag_value.specs.Well.{IsWell, is_item, is_item_pair}
use Rattle.ag_value.specs.operations.Tables.{pair_with, with_pair}
use Rattle.ag_value.proofs.Layers.{depth-Table, weight-Table}
use Rattle.table_tree.specs.Putting.{IsFaultOf}
use Rattle.table_tree.specs.Splits.{IsSplit}
use Rattle.table_tree.proofs.Keys.{Pair, AreAfter, AreBefore, ArePassing, AreSorted, after_trans, before_greater, before_less}
use Rattle.table_tree.proofs.Keys.{before_middle, before_then, filter_all, filter_passing, found_same, is_left, is_right}
use Rattle.table_tree.proofs.Keys.{is_same, left_of_after, none_of_after, none_of_before, not_back, not_itself, order}
use Rattle.table_tree.proofs.Keys.{passing_append, passing_filter, right_of_before, same_equal, sorted_around, sorted_filter}
use Rattle.table_tree.proofs.Keys.{sorted_suffix}
use Rattle.table_tree.proofs.Tables.{greatest_append, is_text, sum_append, sum_cons, table_of, well_of}
use Rattle.table_tree.proofs.Tables.{well_prefix, well_suffix}

-- pairs with smaller keys stay at the beginning
with_prefix : (key : List ℕ) (x : Value) (ps qs : List Pair) → AreBefore key ps
    → with_pair key x (ps ++ qs) ≡ ps ++ with_pair key x qs
with_prefix key x ps qs s =
    rw (filter-append, filter-append, filter_all (is_left key) ps s, right_of_before key ps s, append_assoc)

-- pairs with greater keys stay at the end
with_suffix : (key : List ℕ) (x : Value) (ps qs : List Pair) → AreAfter key qs
    → with_pair key x (ps ++ qs) ≡ with_pair key x ps ++ qs
with_suffix key x ps qs s =
    rw (filter-append, filter-append, left_of_after key qs s, filter_all (is_right key) qs s, append-nil, append_assoc)

-- the pair with the key is replaced
with_same : (p : Pair) (x : Value) → with_pair p.0 x (p ∷ []) ≡ (p.0, x) ∷ []
with_same p x = rw (not_itself p.0)

-- no pair of the first list is found
find_past : (test : Pair → Bool) (ps qs : List Pair) → find test ps ≡ None → find test (ps ++ qs) ≡ find test qs
find_past test ps qs none = rw (find-append, none)

-- no pair of the second list is found
find_within : (test : Pair → Bool) (ps qs : List Pair) → find test qs ≡ None → find test (ps ++ qs) ≡ find test ps
find_within test ps qs none = rw (find-append, none) (go (find test ps))
  where
    go : (found : Option Pair) → option_or found None ≡ found
    go None = refl
    go (Some p) = refl

-- ---- split tables

module _ {ps before : List Pair} {p : Pair} {after : List Pair} (s : IsSplit ps before p after) where
  sorted_parts : AreSorted (before ++ p ∷ after)
  sorted_parts = rw s.parts at (table_of ps s.well).sorted

  -- the pairs before the pair have smaller keys, and those after it greater ones
  before_pair : AreBefore p.0 before
  before_pair = before_middle before p after sorted_parts

  after_pair : AreAfter p.0 after
  after_pair = (sorted_suffix before (p ∷ after) sorted_parts).0

  pub well_left : IsWell (v.Table before)
  well_left = well_prefix before (p ∷ after) (rw s.parts at s.well)

  pub well_right : IsWell (v.Table after)
  well_right = well_suffix (p ∷ []) after (well_suffix before (p ∷ after) (rw s.parts at s.well))

  pub shorter_left : length before < length ps
  shorter_left = omega (arith, ap length s.parts, length-append before (p ∷ after))

  pub shorter_right : length after < length ps
  shorter_right = omega (arith, ap length s.parts, length-append before (p ∷ after))

  -- the table in which the key of a pair has its value
  pub with_less : (q : Pair) → order q.0 p.0 ≡ Less → with_pair q.0 q.1 ps ≡ with_pair q.0 q.1 before ++ p ∷ after
  with_less q e =
      let less = before_less q.0 p.0 e in
      cc (with_suffix q.0 q.1 before (p ∷ after) (less, after_trans q.0 p.0 after less after_pair))

  pub with_greater : (q : Pair) → order q.0 p.0 ≡ Greater → with_pair q.0 q.1 ps ≡ before ++ p ∷ with_pair q.0 q.1 after
  with_greater q e =
      let greater = before_greater q.0 p.0 e in
      cc (
        with_prefix q.0 q.1 before (p ∷ after) (before_then p.0 q.0 before greater before_pair),
        with_prefix q.0 q.1 (p ∷ []) after (greater, tt),
      )

  pub with_equal : (q : Pair) → order q.0 p.0 ≡ Equal → with_pair q.0 q.1 ps ≡ before ++ q ∷ after
  with_equal q e =
      rw (same_equal q.0 p.0 e)
      (cc (
        with_prefix p.0 q.1 before (p ∷ after) before_pair,
        with_suffix p.0 q.1 (p ∷ []) after after_pair,
        with_same p q.1,
      ))

  pub well_less : (q : Pair) → order q.0 p.0 ≡ Less → IsWell (v.Table (with_pair q.0 q.1 ps))
      → IsWell (v.Table (with_pair q.0 q.1 before))
  well_less q e well = well_prefix (with_pair q.0 q.1 before) (p ∷ after) (rw (with_less q e) at well)

  pub well_greater : (q : Pair) → order q.0 p.0 ≡ Greater → IsWell (v.Table (with_pair q.0 q.1 ps))
      → IsWell (v.Table (with_pair q.0 q.1 after))
  well_greater q e well =
      well_suffix (p ∷ []) (with_pair q.0 q.1 after)
      (well_suffix before (p ∷ with_pair q.0 q.1 after) (rw (with_greater q e) at well))

  -- the pair with a key
  pub found_less : (key : List ℕ) → order key p.0 ≡ Less → pair_with key ps ≡ pair_with key before
  found_less key e =
      let less = before_less key p.0 e in
      cc (find_within (is_same key) before (p ∷ after)
      (none_of_after key (p ∷ after) (less, after_trans key p.0 after less after_pair)))

  pub found_greater : (key : List ℕ) → order key p.0 ≡ Greater → pair_with key ps ≡ pair_with key after
  found_greater key e =
      let greater = before_greater key p.0 e in
      cc (
        find_past (is_same key) before (p ∷ after) (none_of_before key before (before_then p.0 key before greater before_pair)),
        find_past (is_same key) (p ∷ []) after (none_of_before key (p ∷ []) (greater, tt)),
      )

  pub found_equal : (key : List ℕ) → order key p.0 ≡ Equal → pair_with key ps ≡ Some p
  found_equal key e =
      rw (
        same_equal key p.0 e,
        s.parts,
        find_past (is_same p.0) before (p ∷ after) (none_of_before p.0 before before_pair),
        found_same p,
      )

-- ---- measures of the table in which a key has a value

-- for a measure f of pairs: the sum over the pairs before a key and those after it is at most the sum over all pairs
sides_lighter : (key : List ℕ) (f : Pair → ℕ) (ps : List Pair)
    → sum (map f (filter (is_left key) ps)) + sum (map f (filter (is_right key) ps)) ≤ sum (map f ps)
sides_lighter key f [] = omega arith
sides_lighter key f (p ∷ ps) = go (is_left key p) (is_right key p) (not_back p.0 key) (sides_lighter key f ps)
  where
    go : (a b : Bool) → (a ≡ true → b ≡ false)
        → sum (map f (filter (is_left key) ps)) + sum (map f (filter (is_right key) ps)) ≤ sum (map f ps)
        → sum (map f (cond a (p ∷ filter (is_left key) ps) (filter (is_left key) ps)))
        + sum (map f (cond b (p ∷ filter (is_right key) ps) (filter (is_right key) ps))) ≤ sum (map f (p ∷ ps))
    go true true one rest = let bad = one refl in cc
    go true false one rest = omega (arith, sum_cons f p ps, sum_cons f p (filter (is_left key) ps))
    go false true one rest = omega (arith, sum_cons f p ps, sum_cons f p (filter (is_right key) ps))
    go false false one rest = omega (arith, sum_cons f p ps)

pub with_lighter : (p : Pair) (f : Pair → ℕ) (ps : List Pair) → sum (map f (with_pair p.0 p.1 ps)) ≤ sum (map f ps) + f p
with_lighter p f ps =
    let right : List Pair = filter (is_right p.0) ps in
    omega (arith, sides_lighter p.0 f ps, sum_append f (filter (is_left p.0) ps) (p ∷ right), sum_cons f p right)

filter_shallower : (f : Pair → ℕ) (test : Pair → Bool) (ps : List Pair)
    → greatest (map f (filter test ps)) ≤ greatest (map f ps)
filter_shallower f test [] = omega arith
filter_shallower f test (p ∷ ps) =
    let rest = filter_shallower f test ps in
    cond_both (test p) _ _ (λ (qs : List Pair). greatest (map f qs) ≤ greatest (map f (p ∷ ps))) (λ e. omega arith)
    (λ e. omega arith)

pub with_shallower : (p : Pair) (f : Pair → ℕ) (ps : List Pair)
    → greatest (map f (with_pair p.0 p.1 ps)) ≤ max (f p) (greatest (map f ps))
with_shallower p f ps =
    omega (
      arith,
      filter_shallower f (is_left p.0) ps,
      filter_shallower f (is_right p.0) ps,
      greatest_append f (filter (is_left p.0) ps) (p ∷ filter (is_right p.0) ps),
    )

-- ---- the table in which a key has a value is well if it is within the limits

passing_with : (test : Pair → Bool) (p : Pair) (ps : List Pair) → test p ≡ true → ArePassing test ps
    → ArePassing test (with_pair p.0 p.1 ps)
passing_with test p ps here all =
    passing_append test (filter (is_left p.0) ps) (p ∷ filter (is_right p.0) ps) (passing_filter test (is_left p.0) ps all)
    (here, passing_filter test (is_right p.0) ps all)

pub well_with : (p : Pair) (ps : List Pair) → IsWell (v.Table ps) → is_utf8 p.0 ≡ true → is_item p.1 ≡ true
    → IsFaultOf (with_pair p.0 p.1 ps) None → IsWell (v.Table (with_pair p.0 p.1 ps))
well_with p ps well text item fits =
    let t = table_of ps well in
    let left : List Pair = filter (is_left p.0) ps in
    let right : List Pair = filter (is_right p.0) ps in
    well_of (left ++ p ∷ right) (record {
      sorted =
          sorted_around left p right (sorted_filter (is_left p.0) ps t.sorted) (filter_passing (is_left p.0) ps)
          (filter_passing (is_right p.0) ps) (sorted_filter (is_right p.0) ps t.sorted);
      texts = passing_with is_text p ps text t.texts;
      items = passing_with is_item_pair p ps item t.items;
      levels = omega (arith, depth-Table (left ++ p ∷ right));
      bytes = omega (arith, weight-Table (left ++ p ∷ right));
    })
