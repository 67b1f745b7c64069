-- A map that has the indexes of a list's occurrences (`AreIndexesOf`) still has them after one more is added to both.
use Rattle.ag_expr.proofs.Common
use Common.{ℕ, ◌≡◌, ◌+◌, Bool, true, false, List, [], ◌∷◌, ◌++◌, length, Some, None, position, get_or, is_some, IfSome, ◌<◌, refl}
use Common.{ap, sym, ◌∙◌, arith, eq-eqb, nat_tests, bytes_eq-Decides, list_any-append, list_any_at, Occ, is_of, position_of}
use Common.{listed_with, listed_with_all}
use Rattle.std.proofs.lemmas.Iterator.Adapters.{position_from-zero}
use Rattle.std.proofs.lemmas.List.Quantifiers.{all_pairs_push}
use Rattle.std.specs.HashMap.{HashMap, Updates}
use Rattle.std.specs.List.{list_any, position_from, position_or_len}
use Rattle.ag_grammar.specs.expressions.Occurrences.{AreApart, AreDifferent}
use Rattle.ag_expr.specs.language.Indexes.{Key, same_key, AreIndexesOf}
use Rattle.ag_expr.proofs.language.Listing.{listed_alike}

-- a member is found if and only if one satisfies the test
found_from : {X : Type 0} (p : X → Bool) (i : ℕ) (xs : List X) → is_some (position_from p i xs) ≡ list_any p xs
found_from p i [] = refl
found_from p i (x ∷ xs) = let more = found_from p (i + 1) xs in grind arith

-- if x satisfies the test, and no other member does, x at the end of the list is the one that is found
new_from : {X : Type 0} (p : X → Bool) (i : ℕ) (xs : List X) (x : X) → p x ≡ true → list_any p xs ≡ false
    → position_from p i (xs ++ x ∷ []) ≡ Some (i + length xs)
new_from p i [] x h none = rw h (ap Some (omega arith))
new_from p i (y ∷ ys) x h none = let more = new_from p (i + 1) ys x h in grind (arith, more)

-- if x does not satisfy the test, the same member is found with x at the end as without it
old_from : {X : Type 0} (p : X → Bool) (i : ℕ) (xs : List X) (x : X) → p x ≡ false
    → position_from p i (xs ++ x ∷ []) ≡ position_from p i xs
old_from p i [] x h = rw h refl
old_from p i (y ∷ ys) x h = cc (old_from p (i + 1) ys x h)

found : {X : Type 0} (p : X → Bool) (xs : List X) → is_some (position p xs) ≡ list_any p xs
found p xs = cc (position_from-zero p xs, found_from p 0 xs)

new_at : {X : Type 0} (p : X → Bool) (xs : List X) (x : X) → p x ≡ true → list_any p xs ≡ false
    → position p (xs ++ x ∷ []) ≡ Some (length xs)
new_at p xs x h none = position_from-zero p (xs ++ x ∷ []) ∙ new_from p 0 xs x h none ∙ ap Some (omega arith)

old_at : {X : Type 0} (p : X → Bool) (xs : List X) (x : X) → p x ≡ false → position p (xs ++ x ∷ []) ≡ position p xs
old_at p xs x h = position_from-zero p (xs ++ x ∷ []) ∙ old_from p 0 xs x h ∙ sym (position_from-zero p xs)

-- the index that is found is below the length of the list
pub within : {X : Type 0} (p : X → Bool) (xs : List X) → IfSome (position p xs) (λ k. k < length xs)
within p xs = grind (arith, nat_tests)

-- an occurrence is listed if it has an index, and is not if it has none
pub listed_where : (listed : List Occ) (place : ℕ) (attr : List ℕ) (k : ℕ) → position_of listed place attr ≡ Some k
    → list_any (is_of place attr) listed ≡ true
listed_where listed place attr k e = cc (found (is_of place attr) listed)

pub unlisted_where : (listed : List Occ) (place : ℕ) (attr : List ℕ) → position_of listed place attr ≡ None
    → list_any (is_of place attr) listed ≡ false
unlisted_where listed place attr e = cc (found (is_of place attr) listed)

-- an occurrence has its own place and name
is_own : (place : ℕ) (attr : List ℕ) (at : ℕ) → is_of place attr (record { place = place; attr = attr; at = at }) ≡ true
is_own place attr at = rw (eq-eqb place place refl, (bytes_eq-Decides attr attr).1 refl) refl

-- the index of a new occurrence
pub number_pushed : {listed kept pushed : List Occ} (place at : ℕ) {number : ℕ} {attr name : List ℕ}
    → position_of listed place attr ≡ None → kept ≡ listed → number ≡ length kept
    → pushed ≡ kept ++ record { place = place; attr = name; at = at } ∷ [] → name ≡ attr
    → position_of pushed place attr ≡ Some number
number_pushed {listed} place at {attr = attr} none same count more call_name =
    let one : Occ = record { place = place; attr = attr; at = at } in
    let pushed_is = rw (same, call_name) at more in
    cc (new_at (is_of place attr) listed one (is_own place attr at) (unlisted_where listed place attr none))

stays_from : {X : Type 0} (p : X → Bool) (i k : ℕ) (xs : List X) (x : X) → position_from p i xs ≡ Some k
    → position_from p i (xs ++ x ∷ []) ≡ Some k
stays_from p i k [] x e = cc
stays_from p i k (y ∷ ys) x e = let more = stays_from p (i + 1) k ys x in grind (arith, more)

stays_with : (listed : List Occ) (place : ℕ) (attr : List ℕ) (k : ℕ) (x : Occ) → position_of listed place attr ≡ Some k
    → position_of (listed_with listed x) place attr ≡ Some k
stays_with listed place attr k x e = let zero = position_from-zero (is_of place attr) in
    let stays = stays_from (is_of place attr) 0 k listed x in grind (arith, zero, stays)

-- an index stays the same when more occurrences are listed
pub position_stays : (listed : List Occ) (place : ℕ) (attr : List ℕ) (k : ℕ) (more : List Occ)
    → position_of listed place attr ≡ Some k → position_of (listed_with_all listed more) place attr ≡ Some k
position_stays listed place attr k [] e = e
position_stays listed place attr k (x ∷ more) e =
    position_stays (listed_with listed x) place attr k more (stays_with listed place attr k x e)

-- a listed occurrence has an index
pub has_number : (listed : List Occ) (x : Occ) → (k : ℕ) × (position_of (listed_with listed x) x.place x.attr ≡ Some k)
has_number listed x = (
  position_or_len (is_of x.place x.attr) (listed_with listed x),
  let own = is_own x.place x.attr x.at in let is = found (is_of x.place x.attr) (listed_with listed x) in
      grind (arith, list_any-append),
)

-- an occurrence with this key
abbrev at_key : Key → ℕ → Occ
at_key key at = record { place = key.0; attr = key.1.now; at = at }

-- the map with the index of one more occurrence has the indexes of the list with that occurrence
follows_on : {S : Type 0} (numbers new : HashMap Key ℕ S) (listed : List Occ) (key : Key) (at : ℕ)
    → list_any (is_of key.0 key.1.now) listed ≡ false → AreIndexesOf numbers listed
    → Updates same_key numbers new key (Some (length listed)) → AreIndexesOf new (listed ++ at_key key at ∷ [])
follows_on numbers new listed key at none follows updates q =
    let is = updates.0 q in
    let so_far = follows q in
    let alike = listed_alike listed (at_key key at) (at_key q 0) in
    let one_more = new_at (is_of q.0 q.1.now) listed (at_key key at) in
    let as_before = old_at (is_of q.0 q.1.now) listed (at_key key at) in
    grind (arith, alike, one_more, as_before)

-- the same for the values of the code
pub follows_pushed : {S : Type 0} (numbers new : HashMap Key ℕ S) {listed kept pushed : List Occ} (key : Key) (at : ℕ)
    {number : ℕ} {attr : List ℕ} → list_any (is_of key.0 key.1.now) listed ≡ false → AreIndexesOf numbers listed → kept ≡ listed
    → number ≡ length kept
    → Updates same_key numbers new key (Some number) → pushed ≡ kept ++ record { place = key.0; attr = attr; at = at } ∷ []
    → attr ≡ key.1.now → AreIndexesOf new pushed
follows_pushed numbers new {listed} key at none follows same count updates more name =
    rw (more, same, name) (follows_on numbers new listed key at none follows (rw (count, same) at updates))

-- if listed occurrences are different, they still are with one more whose place and name are not listed
pub pushed_apart : {listed kept pushed : List Occ} (place at : ℕ) {attr name : List ℕ}
    → list_any (is_of place attr) listed ≡ false → AreDifferent listed → kept ≡ listed
    → pushed ≡ kept ++ record { place = place; attr = name; at = at } ∷ [] → name ≡ attr
    → AreDifferent pushed
pushed_apart {listed} place at {attr} none distinct_occurrences same more is =
    let one : Occ = record { place = place; attr = attr; at = at } in
    let apart : (x : Occ) → (is_of place attr x ≡ true → list_any (is_of place attr) listed ≡ true) → AreApart x one =
    λ x found here named. let same : is_of place attr x ≡ true = rw (here, named) (is_own place attr x.at) in
    let bad : true ≡ false = cc (found same) in cc in
    rw (more, same, is)
    (all_pairs_push AreApart listed one distinct_occurrences
    (λ i d below. apart (get_or listed i d) (list_any_at (is_of place attr) listed i d below)))
