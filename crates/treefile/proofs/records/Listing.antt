-- The values of a record as a list.
use Rattle.treefile.proofs.Common
use Common.{◌≡◌, ℕ, zero, suc, ◌+◌, ◌≤◌, Bool, true, false, List, [], ◌∷◌, ◌++◌, length, take, drop, None, inl, All, slice_get}
use Common.{refl, ap, append_assoc, length-append, length-drop, length-take-le, inr, take-append-drop, arith, flat_map, le-leb}
use Common.{leb_tells, nat_tests, drop_at, All-append, All-drop, All-head, All-tail, All-take, Value, spelling_of, IsWell, Item}
use Common.{Production, Grammar, stored_items, Passes, WellAt, left_passes, AreCopies, Child, IsRecordOf, children_with_copies}
use Common.{values_up_to, with_copies, Version}
use Common.item
use Rattle.treefile.specs.Laws.{BytesAreLeft, ListedRecord, ValueIsMissing}
use Rattle.treefile.specs.records.Listed.{IsListedRecord, count_up_to, first_of_values, others_of_values, listed_value}
use Rattle.treefile.specs.records.Listed.{stored_count}
use Rattle.treefile.proofs.records.Spelled.{spelled_apart}
use Rattle.treefile.proofs.records.Values.{count_of_values, values_well}

-- a list of n + 1 values is its first value and n others
placed_more : (vs : List Value) (n : ℕ) → length vs ≡ suc n
    → (length (others_of_values vs) ≡ n) × (first_of_values vs ∷ others_of_values vs ≡ vs)
placed_more [] n e = absurd (omega arith)
placed_more (v ∷ vs) n e = (omega arith, refl)

-- if a list has as many values as there are attributes up to pass k, the values up to pass k of its listed values are the list
values_of_placed : (k : ℕ) (ps : List ℕ) (vs : List Value) → length vs ≡ count_up_to k ps
    → values_up_to k ps (listed_value k ps vs) ≡ vs
values_of_placed k [] [] e = refl
values_of_placed k [] (v ∷ vs) e = absurd (omega arith)
values_of_placed k (p ∷ ps) vs e =
    grind (
      arith,
      nat_tests,
      placed_more vs (count_up_to k ps),
      values_of_placed k ps (others_of_values vs),
      values_of_placed k ps vs,
    )

-- listed values that are all well are well where the pass is at most k
placed_well : (k : ℕ) (ps : List ℕ) (vs : List Value) → length vs ≡ count_up_to k ps → All IsWell vs
    → WellAt (λ p. p ≤ k) ps (listed_value k ps vs) (listed_value k ps vs)
placed_well k [] vs e all a p is le = cc
placed_well k (p ∷ ps) vs e all zero q is le =
    let same : p ≡ q = cc in
    let more = placed_more vs (count_up_to k ps) (omega (arith, rw (le-leb p k (omega arith)) at e)) in
    All-head IsWell (first_of_values vs) (others_of_values vs) (rw (← more.1) at all)
placed_well k (p ∷ ps) vs e all (suc a) q is le =
    elim (leb_tells p k) [
      | inl within ↦
          let count = rw within.0 at e in
          let more = placed_more vs (count_up_to k ps) (omega arith) in
          let others = All-tail IsWell (first_of_values vs) (others_of_values vs) (rw (← more.1) at all) in
          rw within.0 (placed_well k ps (others_of_values vs) more.0 others a q is le)
      | inr past ↦
          let count = rw past.0 at e in
          rw past.0 (placed_well k ps vs (omega arith) all a q is le)
    ]

-- a record's own values and its copies, of a list of them all
abbrev own_of : Bool → ℕ → List Value → List Value
own_of false n vs = vs
own_of true n vs = take n vs

abbrev copies_in : Bool → ℕ → List Value → List Value
copies_in false n vs = []
copies_in true n vs = drop n vs

parted : (has : Bool) (g : Grammar) (m : Passes) (k : ℕ) (q : Production) (vs : List Value) → length vs ≡ stored_count has g m k q
    → All IsWell vs → (length (own_of has (count_up_to k (m q.left)) vs) ≡ count_up_to k (m q.left))
    × (with_copies has (own_of has (count_up_to k (m q.left)) vs) (copies_in has (count_up_to k (m q.left)) vs) ≡ vs)
    × All IsWell (own_of has (count_up_to k (m q.left)) vs)
    × AreCopies has g m k (stored_items q.items) (copies_in has (count_up_to k (m q.left)) vs)
parted false g m k q vs count all = (count, refl, all, refl)
parted true g m k q vs count all =
    let n = count_up_to k (m q.left) in (
      length-take-le n vs (omega arith),
      take-append-drop n vs,
      All-take IsWell n vs all,
      (omega (arith, length-drop n vs), All-drop IsWell n vs all),
    )

-- the children with the copies of a list are those with the values after its first n
copies_within : (has : Bool) (g : Grammar) (m : Passes) (k n : ℕ) (xs : List Item) (vs : List Value)
    → children_with_copies has g m k xs (copies_in has n vs) ≡ children_with_copies has g m k xs (drop n vs)
copies_within true g m k n xs vs = refl
copies_within false g m k n [] vs = refl
copies_within false g m k n (x ∷ xs) vs = cc (copies_of_none xs)
  where
    copies_of_none : (xs : List Item) → children_with_copies false g m k xs [] ≡ children_with_copies false g m k xs (drop n vs)
    copies_of_none [] = refl
    copies_of_none (x ∷ xs) = cc (copies_of_none xs)

-- a listed record is a record, and each record is listed
module _ (version : Version) (g : Grammar) (m : Passes) (k s : ℕ) (body : List ℕ) where
  is_record : (p : ℕ) (q : Production) (vs : List Value) → IsListedRecord version g m k s body p q vs
      → IsRecordOf version g m k (item.Symbol s, None) body
      (children_with_copies version.has_copies g m k (stored_items q.items) (drop (count_up_to k (m s)) vs))
  is_record p q vs is =
      let has = version.has_copies in
      let n = count_up_to k (m q.left) in
      let passes : left_passes m (slice_get g.productions p) ≡ m s = rw (is.production, is.left) in
      let symbol : m q.left ≡ m s = cc in
      let parts = parted has g m k q vs is.count is.well in
      let own = own_of has n vs in
      let long : length own ≡ count_up_to k (m s) = cc in
      let values : values_up_to k (left_passes m (slice_get g.productions p)) (listed_value k (m s) own) ≡ own =
      cc (values_of_placed k (m s) own long) in (
        p,
        q,
        listed_value k (m s) own,
        record {
          production = is.production;
          left = is.left;
          well = placed_well k (m s) own long parts.2;
          copies = copies_in has n vs;
          are_copies = parts.3;
          occurs = cc;
        },
        cc (copies_within has g m k n (stored_items q.items) vs),
        tt,
      )

  is_listed : (ys : List Child) → IsRecordOf version g m k (item.Symbol s, None) body ys
      → (p : ℕ) × (q : Production) × (vs : List Value) × IsListedRecord version g m k s body p q vs
      × (ys ≡ children_with_copies version.has_copies g m k (stored_items q.items) (drop (count_up_to k (m s)) vs))
  is_listed ys is =
      let p = is.0 in
      let q = is.1 in
      let e = is.2 in
      let has = version.has_copies in
      let own = values_up_to k (m s) e in
      let passes : left_passes m (slice_get g.productions p) ≡ m s = rw (is.3.production, is.3.left) in
      let counted : length own ≡ count_up_to k (m q.left) = cc (count_of_values k (m s) e) in
      let stored = listed_parts has q own is.3.copies counted is.3.are_copies (values_well k (m s) e is.3.well) in (
        p,
        q,
        with_copies has own is.3.copies,
        record {
          production = is.3.production;
          left = is.3.left;
          count = stored.0;
          well = stored.1;
          occurs = cc;
        },
        cc,
      )
    where
      listed_parts : (has : Bool) (q : Production) (own cs : List Value) → length own ≡ count_up_to k (m q.left)
          → AreCopies has g m k (stored_items q.items) cs → All IsWell own
          → (length (with_copies has own cs) ≡ stored_count has g m k q) × All IsWell (with_copies has own cs)
          × (children_with_copies has g m k (stored_items q.items) cs ≡ children_with_copies has g m k
          (stored_items q.items) (drop (count_up_to k (m q.left)) (with_copies has own cs)))
      listed_parts false q own cs count are well = (
        count,
        well,
        cc (copies_within false g m k (count_up_to k (m q.left)) (stored_items q.items) own),
      )
      listed_parts true q own cs count are well = (
        omega (arith, length-append own cs, are.0),
        All-append IsWell own cs well are.1,
        cc (drop_at own cs (count_up_to k (m q.left)) count),
      )

pub listed_record : ListedRecord
listed_record version g m k s body ys = (
  is_listed version g m k s body ys,
  λ is. rw is.4 (is_record version g m k s body is.0 is.1 is.2 is.3),
)

-- if the spellings of ws begin with those of vs, the bytes after them are the spellings of the other values of ws
read_on : (vs ws : List Value) (rest : List ℕ) → All IsWell vs → All IsWell ws → length vs ≤ length ws
    → flat_map spelling_of vs ++ rest ≡ flat_map spelling_of ws
    → (more : List Value) × (length ws ≡ length vs + length more) × All IsWell more × (rest ≡ flat_map spelling_of more)
read_on [] ws rest a b le e = (ws, omega arith, b, e)
read_on (v ∷ vs) [] rest a b le e = absurd (omega arith)
read_on (v ∷ vs) (w ∷ ws) rest a b le e =
    let apart =
    spelled_apart v w (flat_map spelling_of vs ++ rest) (flat_map spelling_of ws) (All-head IsWell v vs a)
    (All-head IsWell w ws b) (rw append_assoc at e) in
    let later = read_on vs ws rest (All-tail IsWell v vs a) (All-tail IsWell w ws b) (omega arith) apart.1 in
    (later.0, omega (arith, later.1), later.2, later.3)

pub value_is_missing : ValueIsMissing
value_is_missing bytes vs rest n read less begins is =
    let on = read_on vs is.0 rest read.well is.2 (omega (arith, is.1)) (cc) in
    go on.0 on.1 on.2 on.3
  where
    go : (more : List Value) → length is.0 ≡ length vs + length more → All IsWell more → rest ≡ flat_map spelling_of more → ⊥
    go [] count all e = omega (arith, is.1)
    go (v ∷ more) count all e = begins v (flat_map spelling_of more) (All-head IsWell v more all) e

pub bytes_are_left : BytesAreLeft
bytes_are_left bytes vs rest n read all left is =
    let on = read_on vs is.0 rest read.well is.2 (omega (arith, is.1)) (cc) in
    go on.0 on.1 on.3
  where
    go : (more : List Value) → length is.0 ≡ length vs + length more → rest ≡ flat_map spelling_of more → ⊥
    go [] count e = omega (arith, ap length e)
    go (v ∷ more) count e = omega (arith, is.1)
