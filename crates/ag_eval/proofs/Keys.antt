-- The index of a key among those of a table, present or not.
use Rattle.ag_eval.proofs.Common
use Common.{◌≡◌, ℕ, zero, suc, ◌<◌, ◌≤◌, Bool, true, false, cond, nat_cmp, List, [], ◌∷◌, ◌++◌, length, map, get_or, filter, find}
use Common.{None, bytes_eq, refl, sym, ap, ◌∙◌, subst, arith, and_parts, bytes_eq-Decides, Value, is_before, is_ascending, key_of}
use Common.{IsIndex, with_pair}
use Rattle.std.proofs.lemmas.Cmp.{nat_list_cmp_total, tied_itself}
use Rattle.std.proofs.lemmas.Map.Text.{is_eq-slice_cmp}
use Rattle.std.specs.Cmp.Lexicographic.{slice_cmp}
use Rattle.std.specs.List.Sorted.{IsPartitionPoint, IsPartitionedBy}
use Rattle.std.specs.Ordering.{is_eq, is_lt, ordering_reverse}
use Rattle.std.specs.declared.cmp.Ordering.{Ordering}
use Rattle.std.specs.declared.cmp.Ordering.TheVariants.{Less, Equal, Greater}

abbrev Pair : Type 0
Pair = List ℕ × Value

abbrev order : List ℕ → List ℕ → Ordering
order = slice_cmp nat_cmp

less : (r : Ordering) → is_lt r ≡ true → r ≡ Less
less Less e = refl
less Equal e = let bad : ⊥ = cc in absurd bad
less Greater e = let bad : ⊥ = cc in absurd bad

-- the order of texts by their bytes
before_trans : (a b c : List ℕ) → is_before a b ≡ true → is_before b c ≡ true → is_before a c ≡ true
before_trans a b c p q = ap is_lt (nat_list_cmp_total.trans a b c (less (order a b) p) (less (order b c) q))

not_itself : (a : List ℕ) → is_before a a ≡ false
not_itself a = ap is_lt (tied_itself nat_list_cmp_total a)

not_back : (a b : List ℕ) → is_before a b ≡ true → is_before b a ≡ false
not_back a b p = ap is_lt (nat_list_cmp_total.antisymm b a ∙ ap ordering_reverse (less (order a b) p))

other : (a b : List ℕ) → is_before a b ≡ true → bytes_eq a b ≡ false
other a b p = sym (is_eq-slice_cmp a b) ∙ ap is_eq (less (order a b) p)

other_back : (a b : List ℕ) → is_before a b ≡ true → bytes_eq b a ≡ false
other_back a b p =
    sym (is_eq-slice_cmp b a) ∙ ap is_eq (nat_list_cmp_total.antisymm b a ∙ ap ordering_reverse (less (order a b) p))

-- if a is not before a key, and b is after a, the key is before b
past : (key a b : List ℕ) → is_before a key ≡ false → is_before a b ≡ true → is_before key b ≡ true
past key a b n p = go (order a key) refl n
  where
    go : (r : Ordering) → order a key ≡ r → is_lt r ≡ false → is_before key b ≡ true
    go Less e n = let bad : ⊥ = cc in absurd bad
    go Equal e n = ap is_lt (sym (nat_list_cmp_total.congr a key b e)) ∙ p
    go Greater e n = before_trans key a b (ap is_lt (nat_list_cmp_total.antisymm key a ∙ ap ordering_reverse e)) p

after : (key a : List ℕ) → is_before a key ≡ false → bytes_eq a key ≡ false → is_before key a ≡ true
after key a n differs = go (order a key) refl n
  where
    go : (r : Ordering) → order a key ≡ r → is_lt r ≡ false → is_before key a ≡ true
    go Less e n = let bad : ⊥ = cc in absurd bad
    go Equal e n = let bad : true ≡ false = sym (ap is_eq e) ∙ is_eq-slice_cmp a key ∙ differs in let worse : ⊥ = cc in
        absurd worse
    go Greater e n = ap is_lt (nat_list_cmp_total.antisymm key a ∙ ap ordering_reverse e)

same_key : (a b : List ℕ) → is_before a b ≡ false → is_before b a ≡ false → a ≡ b
same_key a b n m = go (order a b) refl n
  where
    go : (r : Ordering) → order a b ≡ r → is_lt r ≡ false → a ≡ b
    go Less e n = let bad : ⊥ = cc in absurd bad
    go Equal e n = (bytes_eq-Decides a b).0 (sym (is_eq-slice_cmp a b) ∙ ap is_eq e)
    go Greater e n = let back : is_before b a ≡ true = ap is_lt (nat_list_cmp_total.antisymm b a ∙ ap ordering_reverse e) in
        let bad : true ≡ false = sym back ∙ m in let worse : ⊥ = cc in absurd worse

-- the first of ascending keys is before the second, and the keys from the second on ascend
rising_parts : (a b : List ℕ) (keys : List (List ℕ)) → is_ascending (a ∷ b ∷ keys) ≡ true
    → (is_before a b ≡ true) × (is_ascending (b ∷ keys) ≡ true)
rising_parts a b keys h = and_parts (is_before a b) (is_ascending (b ∷ keys)) h

rising_rest : (a : List ℕ) (keys : List (List ℕ)) → is_ascending (a ∷ keys) ≡ true → is_ascending keys ≡ true
rising_rest a [] h = refl
rising_rest a (b ∷ keys) h = (rising_parts a b keys h).1

-- pairs whose keys are all after a key
record AreAfter (key : List ℕ) (pairs : List Pair) : Type 0 where
  back : filter (λ (p : Pair). is_before key p.0) pairs ≡ pairs
  prefix : filter (λ (p : Pair). is_before p.0 key) pairs ≡ []
  absent : find (λ (p : Pair). bytes_eq p.0 key) pairs ≡ None

later : (key a : List ℕ) (pairs : List Pair) → is_before a key ≡ false → is_ascending (a ∷ map key_of pairs) ≡ true
    → AreAfter key pairs
later key a [] n rising = record { back = refl; prefix = refl; absent = refl }
later key a (x ∷ xs) n rising =
    let parts = rising_parts a x.0 (map key_of xs) rising in
    let following : is_before key x.0 ≡ true = past key a x.0 n parts.0 in
    let rest = later key x.0 xs (not_back key x.0 following) parts.1 in
    record {
      back = rw following (ap (λ (ys : List Pair). x ∷ ys) rest.back);
      prefix = rw (not_back key x.0 following) rest.prefix;
      absent = rw (other_back key x.0 following) rest.absent;
    }

abbrev KeysBefore : List ℕ → List Pair → ℕ → Type 0
KeysBefore key pairs i = (k : ℕ) (d : Pair) → k < i → is_before (get_or pairs k d).0 key ≡ true

abbrev KeysAfter : List ℕ → List Pair → ℕ → Type 0
KeysAfter key pairs i = (k : ℕ) (d : Pair) → i ≤ k → k < length pairs → is_before (get_or pairs k d).0 key ≡ false

index_found : (key : List ℕ) (pairs : List Pair) (i : ℕ) → is_ascending (map key_of pairs) ≡ true → i ≤ length pairs
    → KeysBefore key pairs i → KeysAfter key pairs i → IsIndex key pairs i
index_found key [] zero rising le before backs =
    record { prefix = refl; occurs = λ same. let bad : ⊥ = cc in absurd bad; belongs = λ differs. (refl, refl) }
index_found key [] (suc i) rising le before backs = absurd (omega arith)
index_found key (x ∷ xs) zero rising le before backs =
    let n : is_before x.0 key ≡ false = backs zero x (omega arith) (omega arith) in
    let rest = later key x.0 xs n rising in
    record {
      prefix = rw n rest.prefix;
      occurs = λ is.
          let itself : is_before key x.0 ≡ false = ap (is_before key) ((bytes_eq-Decides x.0 key).0 is) ∙ not_itself key in
          (rw itself rest.back, rw is refl);
      belongs = λ is.
          let following : is_before key x.0 ≡ true = after key x.0 n is in
          (rw following (ap (λ (ys : List Pair). x ∷ ys) rest.back), rw is rest.absent);
    }
index_found key (x ∷ xs) (suc i) rising le before backs =
    let here : is_before x.0 key ≡ true = before zero x (omega arith) in
    let rest =
    index_found key xs i (rising_rest x.0 (map key_of xs) rising) (omega arith) (λ k d lt. before (suc k) d (omega arith))
    (λ k d le lt. backs (suc k) d (omega arith) (omega arith)) in
    let n : is_before key x.0 ≡ false = not_back x.0 key here in
    let differs : bytes_eq x.0 key ≡ false = other x.0 key here in
    record {
      prefix = rw here (ap (λ (ys : List Pair). x ∷ ys) rest.prefix);
      occurs = λ same. let e = rest.occurs same in (rw n e.0, rw differs e.1);
      belongs = λ none. let e = rest.belongs none in (rw n e.0, rw differs e.1);
    }

-- the first of ascending keys is before each other one
first_least : (a : List ℕ) (xs : List Pair) (j : ℕ) (d : Pair) → is_ascending (a ∷ map key_of xs) ≡ true → j < length xs
    → is_before a (get_or xs j d).0 ≡ true
first_least a [] j d rising lt = absurd (omega arith)
first_least a (x ∷ xs) zero d rising lt = (rising_parts a x.0 (map key_of xs) rising).0
first_least a (x ∷ xs) (suc j) d rising lt =
    let parts = rising_parts a x.0 (map key_of xs) rising in
    before_trans a x.0 (get_or xs j d).0 parts.0 (first_least x.0 xs j d parts.1 (omega arith))

pub partitioned : (key : List ℕ) (pairs : List Pair) → is_ascending (map key_of pairs) ≡ true
    → IsPartitionedBy (λ (p : Pair). is_before p.0 key) pairs
partitioned key [] rising i j d le lt h = absurd (omega arith)
partitioned key (x ∷ xs) rising zero zero d le lt h = h
partitioned key (x ∷ xs) rising zero (suc j) d le lt h =
    before_trans x.0 (get_or xs j d).0 key (first_least x.0 xs j d rising (omega arith)) h
partitioned key (x ∷ xs) rising (suc i) zero d le lt h = absurd (omega arith)
partitioned key (x ∷ xs) rising (suc i) (suc j) d le lt h =
    partitioned key xs (rising_rest x.0 (map key_of xs) rising) i j d (omega arith) (omega arith) h

-- the end of a binary search is the index
pub index_is : (key : List ℕ) (pairs : List Pair) (i : ℕ) → is_ascending (map key_of pairs) ≡ true → i ≤ length pairs
    → IsPartitionPoint (λ (p : Pair). is_before p.0 key ≡ true) (λ (p : Pair). is_before p.0 key ≡ false) pairs i
    → IsIndex key pairs i
index_is key pairs i rising le point =
    index_found key pairs i rising le (λ k d lt. point.0 k d (omega arith) lt) (λ k d le lt. point.1 k d le lt)

-- the keys of a table still rise after a pair was put into it
rising_pair : (a b : List ℕ) (keys : List (List ℕ)) → is_before a b ≡ true → is_ascending (b ∷ keys) ≡ true
    → is_ascending (a ∷ b ∷ keys) ≡ true
rising_pair a b keys p q = rw (p, q) refl

abbrev Rises : List Pair → Type 0
Rises pairs = is_ascending (map key_of pairs) ≡ true

pub rising_with : (key : List ℕ) (v : Value) (pairs : List Pair) → Rises pairs → Rises (with_pair key v pairs)
rising_with key v [] rising = refl
rising_with key v (x ∷ xs) rising = go (is_before x.0 key) refl (rising_with key v xs (rising_rest x.0 (map key_of xs) rising))
  where
    head : (ys : List Pair) → is_ascending (x.0 ∷ map key_of ys) ≡ true → is_before x.0 key ≡ true → Rises (with_pair key v ys)
        → Rises (x ∷ with_pair key v ys)
    head [] rising here rest = rising_pair x.0 key [] here refl
    head (y ∷ ys) rising here rest = inner (is_before y.0 key) refl rest
      where
        inner : (b : Bool) → is_before y.0 key ≡ b
            → Rises
            (cond b (y ∷ filter (λ (p : Pair). is_before p.0 key) ys) (filter (λ (p : Pair). is_before p.0 key) ys)
            ++ (key, v) ∷ filter (λ (p : Pair). is_before key p.0) (y ∷ ys))
            → Rises
            (x
            ∷ (cond b (y ∷ filter (λ (p : Pair). is_before p.0 key) ys)
            (filter (λ (p : Pair). is_before p.0 key) ys) ++ (key, v) ∷ filter
            (λ (p : Pair). is_before key p.0) (y ∷ ys)))
        inner true e rest = rising_pair x.0 y.0 _ (rising_parts x.0 y.0 (map key_of ys) rising).0 rest
        inner false e rest =
            let none = (later key y.0 ys e (rising_parts x.0 y.0 (map key_of ys) rising).1).prefix in
            let rest' = rw none at rest in
            rw none (rising_pair x.0 key _ here rest')

    go : (b : Bool) → is_before x.0 key ≡ b → Rises (with_pair key v xs) → Rises (with_pair key v (x ∷ xs))
    go true here rest = rw (here, not_back x.0 key here) (head xs rising here rest)
    go false n rest = let past = later key x.0 xs n rising in rw (n, past.prefix, past.back) (tail (is_before key x.0) refl n)
      where
        tail : (b : Bool) → is_before key x.0 ≡ b → is_before x.0 key ≡ false → Rises ((key, v) ∷ cond b (x ∷ xs) xs)
        tail true e n = rising_pair key x.0 (map key_of xs) e rising
        tail false e n = subst (λ k. is_ascending (k ∷ map key_of xs) ≡ true) (same_key x.0 key n e) rising
