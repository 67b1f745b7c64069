-- Pairs that all pass a test, such as pairs whose keys are all before a key, or all after it.
use Rattle.std.proofs.Common.{◌≡◌, ℕ, Bool, true, false, nat_cmp, List, [], ◌∷◌, ◌++◌, map, filter, find, None, bytes_eq, refl}
use Rattle.std.proofs.lemmas.Bool.{and_parts, cond_both}
use Rattle.std.proofs.lemmas.Cmp.{nat_list_cmp_total, tied_itself}
use Rattle.std.proofs.lemmas.Map.Text.{is_eq-slice_cmp}
use Rattle.std.proofs.lemmas.Slice.Eq.{bytes_eq-Decides}
use Rattle.std.specs.Cmp.Lexicographic.{slice_cmp}
use Rattle.std.specs.Ordering.{is_lt}
use Rattle.std.specs.declared.cmp.Ordering.{Ordering}
use Rattle.std.specs.declared.cmp.Ordering.TheVariants.{Less, Equal, Greater}
use Rattle.ag_value.specs.declared.value.Value.{Value}
use Rattle.ag_value.specs.Well.{all_true, is_before, is_ascending, key_of}

abbrev pub Pair : Type 0
Pair = List ℕ × Value

-- all pairs pass a test
abbrev pub ArePassing : (Pair → Bool) → List Pair → Type 0
ArePassing test [] = Unit {0}
ArePassing test (p ∷ ps) = (test p ≡ true) × ArePassing test ps

module _ (test : Pair → Bool) where
  pub passing : (ps : List Pair) → all_true (map test ps) ≡ true → ArePassing test ps
  passing [] h = tt
  passing (p ∷ ps) h = let parts = and_parts (test p) (all_true (map test ps)) h in (parts.0, passing ps parts.1)

  pub all_passing : (ps : List Pair) → ArePassing test ps → all_true (map test ps) ≡ true
  all_passing [] s = refl
  all_passing (p ∷ ps) s = rw (s.0, all_passing ps s.1)

  -- all pairs of two joined lists pass exactly if all pairs of each list do
  pub passing_append : (ps qs : List Pair) → ArePassing test ps → ArePassing test qs → ArePassing test (ps ++ qs)
  passing_append [] qs s t = t
  passing_append (p ∷ ps) qs s t = (s.0, passing_append ps qs s.1 t)

  pub passing_prefix : (ps qs : List Pair) → ArePassing test (ps ++ qs) → ArePassing test ps
  passing_prefix [] qs s = tt
  passing_prefix (p ∷ ps) qs s = (s.0, passing_prefix ps qs s.1)

  pub passing_suffix : (ps qs : List Pair) → ArePassing test (ps ++ qs) → ArePassing test qs
  passing_suffix [] qs s = s
  passing_suffix (p ∷ ps) qs s = passing_suffix ps qs s.1

  -- pairs that a filter keeps
  pub passing_filter : (kept : Pair → Bool) (ps : List Pair) → ArePassing test ps → ArePassing test (filter kept ps)
  passing_filter kept [] s = tt
  passing_filter kept (p ∷ ps) s =
      let rest = passing_filter kept ps s.1 in cond_both (kept p) _ _ (ArePassing test) (λ e. (s.0, rest)) (λ e. rest)

  pub filter_passing : (ps : List Pair) → ArePassing test (filter test ps)
  filter_passing [] = tt
  filter_passing (p ∷ ps) =
      let rest = filter_passing ps in cond_both (test p) _ _ (ArePassing test) (λ e. (e, rest)) (λ e. rest)

  -- a filter by a test that all pairs pass keeps all pairs
  pub filter_all : (ps : List Pair) → ArePassing test ps → filter test ps ≡ ps
  filter_all [] s = refl
  filter_all (p ∷ ps) s = rw (s.0, filter_all ps s.1)

  -- another test, of the pairs that pass this one
  pub passing_other : (other : Pair → Bool) → ((p : Pair) → test p ≡ true → other p ≡ true)
      → (ps : List Pair) → ArePassing test ps → ArePassing other ps
  passing_other other follows [] s = tt
  passing_other other follows (p ∷ ps) s = (follows p s.0, passing_other other follows ps s.1)

  filter_none : (other : Pair → Bool) → ((p : Pair) → test p ≡ true → other p ≡ false)
      → (ps : List Pair) → ArePassing test ps → filter other ps ≡ []
  filter_none other fails [] s = refl
  filter_none other fails (p ∷ ps) s = rw (fails p s.0) (filter_none other fails ps s.1)

  find_none : (other : Pair → Bool) → ((p : Pair) → test p ≡ true → other p ≡ false)
      → (ps : List Pair) → ArePassing test ps → find other ps ≡ None
  find_none other fails [] s = refl
  find_none other fails (p ∷ ps) s = rw (fails p s.0) (find_none other fails ps s.1)

-- ---- the order of keys

-- the order of texts by their bytes
abbrev pub order : List ℕ → List ℕ → Ordering
order = slice_cmp nat_cmp

less : (r : Ordering) → is_lt r ≡ true → r ≡ Less
less Less e = refl
less Equal e = cc
less Greater e = cc

pub before_trans : (a b c : List ℕ) → is_before a b ≡ true → is_before b c ≡ true → is_before a c ≡ true
before_trans a b c p q = cc (nat_list_cmp_total.trans a b c (less (order a b) p) (less (order b c) q))

pub not_itself : (a : List ℕ) → is_before a a ≡ false
not_itself a = cc (tied_itself nat_list_cmp_total a)

pub not_back : (a b : List ℕ) → is_before a b ≡ true → is_before b a ≡ false
not_back a b p = cc (nat_list_cmp_total.antisymm b a, less (order a b) p)

other : (a b : List ℕ) → is_before a b ≡ true → bytes_eq a b ≡ false
other a b p = cc (is_eq-slice_cmp a b, less (order a b) p)

other_back : (a b : List ℕ) → is_before a b ≡ true → bytes_eq b a ≡ false
other_back a b p = cc (is_eq-slice_cmp b a, nat_list_cmp_total.antisymm b a, less (order a b) p)

-- what a comparison of two keys says
pub before_less : (a b : List ℕ) → order a b ≡ Less → is_before a b ≡ true
before_less a b e = cc

pub before_greater : (a b : List ℕ) → order a b ≡ Greater → is_before b a ≡ true
before_greater a b e = cc (nat_list_cmp_total.antisymm b a)

pub same_equal : (a b : List ℕ) → order a b ≡ Equal → a ≡ b
same_equal a b e = (bytes_eq-Decides a b).0 (cc (is_eq-slice_cmp a b))

-- ---- pairs before a key, and pairs after it

-- the tests of the pairs before a key, of those after it, and of those with it
abbrev pub is_left : List ℕ → Pair → Bool
is_left key p = is_before p.0 key

abbrev pub is_right : List ℕ → Pair → Bool
is_right key p = is_before key p.0

abbrev pub is_same : List ℕ → Pair → Bool
is_same key p = bytes_eq p.0 key

-- all keys of some pairs are before a key
abbrev pub AreBefore : List ℕ → List Pair → Type 0
AreBefore key = ArePassing (is_left key)

-- all keys of some pairs are after a key
abbrev pub AreAfter : List ℕ → List Pair → Type 0
AreAfter key = ArePassing (is_right key)

pub after_trans : (a b : List ℕ) (ps : List Pair) → is_before a b ≡ true → AreAfter b ps → AreAfter a ps
after_trans a b ps h = passing_other (is_right b) (is_right a) (λ p. before_trans a b p.0 h) ps

pub before_then : (a b : List ℕ) (ps : List Pair) → is_before a b ≡ true → AreBefore a ps → AreBefore b ps
before_then a b ps h = passing_other (is_left a) (is_left b) (λ p e. before_trans p.0 a b e h) ps

-- the tests on pairs that are all before a key
pub right_of_before : (key : List ℕ) (ps : List Pair) → AreBefore key ps → filter (is_right key) ps ≡ []
right_of_before key = filter_none (is_left key) (is_right key) (λ p. not_back p.0 key)

pub none_of_before : (key : List ℕ) (ps : List Pair) → AreBefore key ps → find (is_same key) ps ≡ None
none_of_before key = find_none (is_left key) (is_same key) (λ p. other p.0 key)

-- the tests on pairs that are all after a key
pub left_of_after : (key : List ℕ) (ps : List Pair) → AreAfter key ps → filter (is_left key) ps ≡ []
left_of_after key = filter_none (is_right key) (is_left key) (λ p. not_back key p.0)

pub none_of_after : (key : List ℕ) (ps : List Pair) → AreAfter key ps → find (is_same key) ps ≡ None
none_of_after key = find_none (is_right key) (is_same key) (λ p. other_back key p.0)

pub found_same : (p : Pair) → is_same p.0 p ≡ true
found_same p = (bytes_eq-Decides p.0 p.0).1 refl

-- ---- sorted pairs

-- each key is before all that follow
abbrev pub AreSorted : List Pair → Type 0
AreSorted [] = Unit {0}
AreSorted (p ∷ ps) = AreAfter p.0 ps × AreSorted ps

pub sorted : (ps : List Pair) → is_ascending (map key_of ps) ≡ true → AreSorted ps
sorted [] h = tt
sorted (p ∷ []) h = (tt, tt)
sorted (p ∷ q ∷ ps) h =
    let parts = and_parts (is_before p.0 q.0) (is_ascending (map key_of (q ∷ ps))) h in
    let rest = sorted (q ∷ ps) parts.1 in
    ((parts.0, after_trans p.0 q.0 ps parts.0 rest.0), rest)

pub ascending : (ps : List Pair) → AreSorted ps → is_ascending (map key_of ps) ≡ true
ascending [] s = refl
ascending (p ∷ []) s = refl
ascending (p ∷ q ∷ ps) s = rw (s.0.0, ascending (q ∷ ps) s.1)

-- parts of sorted pairs are sorted
pub sorted_prefix : (ps qs : List Pair) → AreSorted (ps ++ qs) → AreSorted ps
sorted_prefix [] qs s = tt
sorted_prefix (p ∷ ps) qs s = (passing_prefix (is_right p.0) ps qs s.0, sorted_prefix ps qs s.1)

pub sorted_suffix : (ps qs : List Pair) → AreSorted (ps ++ qs) → AreSorted qs
sorted_suffix [] qs s = s
sorted_suffix (p ∷ ps) qs s = sorted_suffix ps qs s.1

-- a pair among sorted pairs: those before it have smaller keys
pub before_middle : (ps : List Pair) (q : Pair) (qs : List Pair) → AreSorted (ps ++ q ∷ qs) → AreBefore q.0 ps
before_middle [] q qs s = tt
before_middle (p ∷ ps) q qs s = ((passing_suffix (is_right p.0) ps (q ∷ qs) s.0).0, before_middle ps q qs s.1)

-- sorted pairs on both sides of a pair are sorted with it
pub sorted_around : (ps : List Pair) (q : Pair) (qs : List Pair) → AreSorted ps → AreBefore q.0 ps → AreAfter q.0 qs
    → AreSorted qs → AreSorted (ps ++ q ∷ qs)
sorted_around [] q qs s b a t = (a, t)
sorted_around (p ∷ ps) q qs s b a t =
    (passing_append (is_right p.0) ps (q ∷ qs) s.0 (b.0, after_trans p.0 q.0 qs b.0 a), sorted_around ps q qs s.1 b.1 a t)

-- the pairs that pass a test are still sorted
pub sorted_filter : (test : Pair → Bool) (ps : List Pair) → AreSorted ps → AreSorted (filter test ps)
sorted_filter test [] s = tt
sorted_filter test (p ∷ ps) s =
    let rest = sorted_filter test ps s.1 in
    cond_both (test p) _ _ AreSorted (λ e. (passing_filter (is_right p.0) test ps s.0, rest)) (λ e. rest)
