-- The search for the longest literal at the beginning of a text in a table of literals.
use Rattle.std.proofs.Common.{Bor, Bool, true, false, get_or, ◌≡◌, ℕ, zero, suc, ◌+◌, ◌<◌, ◌≤◌, List, [], ◌∷◌}
use Rattle.std.proofs.Common.{length, Option, Some, slice_get, refl, ap, arith}
use Rattle.std.proofs.lemmas.List.{length-append}
use Rattle.std.specs.Cmp.{ranks}
use Rattle.std.specs.Cmp.Lexicographic.{slice_cmp, on_texts}
use Rattle.std.specs.List.Sorted.{IsPermutation, IsSortedByKey, IsPartitionedBy, IsPartitionPoint}
use Rattle.std.proofs.lemmas.List.Sorted.{All-permutation, Contains-permutation, sorted_far, ranks_by}
use Rattle.std.proofs.lemmas.Option.{get_or_from_slice_get, slice_get-get_or, slice_get_within}
use Rattle.std.specs.Ordering.{nat_cmp, is_le, MatchOrdering}
use Rattle.std.specs.declared.cmp.Ordering.{Ordering}
use Rattle.std.specs.declared.cmp.Ordering.TheVariants.{Less, Equal, Greater}
use Rattle.ag_scan.specs.declared.literals.LiteralEntry.{LiteralEntry}
use Rattle.ag_scan.specs.Table.{IsPrefix, IsNotAfter, AreNotAfter, NoPrefix, IsLastPrefix, IsLastPrefixIfAny, after_last}
use Rattle.ag_scan.specs.Table.{AreLinked, AreOrdered, AreLiterals, IsTable, IsLongestPrefix}
use Rattle.ag_scan.proofs.words.Orders.{prefix_between, prefix_is_up, up_up, not_less}

-- a list has a member at each index below its length
some_there : {A : Type 0} (xs : List A) (i : ℕ) → i < length xs → (x : A) × (slice_get xs i ≡ Some x)
some_there [] i h = absurd (omega arith)
some_there (x ∷ xs) zero h = (x, refl)
some_there (x ∷ xs) (suc i) h = some_there xs i (omega arith)

-- a prefix is not longer than the text
pub prefix_fits : (p text : List ℕ) → IsPrefix p text → length p ≤ length text
prefix_fits p text (rest, e) = omega (arith, ap length e, length-append p rest)

-- no entry after the last prefix of the text is a prefix of the text
last_after : (entries : List LiteralEntry) (bound : ℕ) (text : List ℕ) (o : Option ℕ) → IsLastPrefixIfAny entries bound text o
    → NoPrefix entries (after_last o) bound text
last_after entries bound text o h = grind arith

-- the comparison of two numbers, by its three cases
pub compared : {A : Type 0} (i k : ℕ) → (i < k → A) → (i ≡ k → A) → (k < i → A) → A
compared {A = A} i k less same more = go (nat_cmp i k) (ranks i k)
  where
    go : (o : Ordering) → MatchOrdering o (i < k) (i ≡ k) (k < i) → A
    go Less h = less h
    go Equal h = same h
    go Greater h = more h

pub split : {A : Type 0} (i k : ℕ) → (i < k → A) → (k ≤ i → A) → A
split i k less others = compared i k less (λ same. others (omega arith)) (λ more. others (omega arith))

module _ {entries : List LiteralEntry} {shorter : List (Option ℕ)} {bound : ℕ} {text : List ℕ} (ordered : AreOrdered entries)
    (linked : AreLinked entries shorter) (up : AreNotAfter entries bound text) where
  -- if the entry at `last` is not a prefix of the text, then no entry after the one to which it links is a prefix of the text
  pub goes_on : {limit : ℕ} (last : ℕ) {w : LiteralEntry} {o : Option ℕ} → limit ≤ bound → limit ≡ last + 1
      → NoPrefix entries limit bound text → slice_get entries last ≡ Some w → slice_get shorter last ≡ Some o
      → (IsPrefix w.text.now text → ⊥) → NoPrefix entries (after_last o) bound text
  goes_on last {w} {o} within is none there link not_here =
      let lower = last_after entries last w.text.now o (linked.each last w o there link) in
      record {
        none = λ i u low high at prefix.
            compared i last
            (λ less. lower.none i u low less at
            (prefix_between (ordered.each i last u w (omega arith) at there) (up.each last w (omega arith) there) prefix))
            (λ same. (let one : u ≡ w = cc in not_here (rw one at prefix)))
            (λ more. none.none i u (omega arith) high at prefix);
      }

-- the last prefix of the text among the entries that are not after it is the longest literal that is a prefix
module _ {literals : List (List ℕ)} {entries : List LiteralEntry} {shorter : List (Option ℕ)}
    (table : IsTable literals entries shorter) {bound : ℕ} {text : List ℕ} (up : AreNotAfter entries bound text)
    (others : NoPrefix entries bound (length entries) text) where
  pub last_is_longest : {k : ℕ} {w : LiteralEntry} → IsLastPrefix entries bound text k → slice_get entries k ≡ Some w
      → IsLongestPrefix literals text w
  last_is_longest {k} {w} last there =
      record {
        numbered = table.literals_all.numbered k w there;
        prefix = let one : last.word ≡ w = cc in rw one at last.prefix;
        longest = λ n x at is.
            let (j, u, here, same) = table.literals_all.whole n x at in
            rw (← same) (fits j u here (rw (← same) at is));
      }
    where
      fits : (j : ℕ) (u : LiteralEntry) → slice_get entries j ≡ Some u → IsPrefix u.text.now text
          → length u.text.now ≤ length w.text.now
      fits j u at is =
          split k j
          (λ more.
          absurd
          (split j bound (λ less. last.last.none j u (omega arith) less at is)
          (λ far. others.none j u far (slice_get_within entries j u at) at is)))
          (λ le. prefix_fits u.text.now w.text.now
          (prefix_between (table.ordered.each j k u w le at there) (up.each k w last.below there) is))

-- ---- the construction of the table

-- the entries so far are the first literals, each with its number
pub record AreFirst (literals : List (List ℕ)) (entries : List LiteralEntry) (count : ℕ) : Type 0 where
  pub many : length entries ≡ count
  pub each : (k : ℕ) (w : LiteralEntry) → slice_get entries k ≡ Some w → (w.number ≡ k) × (slice_get literals k ≡ Some w.text.now)

pub all_first : {literals : List (List ℕ)} {entries : List LiteralEntry} → AreFirst literals entries (length literals)
    → AreLiterals literals entries
all_first {literals} {entries} first = record {
  numbered = λ k w e. rw (first.each k w e).0 (first.each k w e).1;
  whole = λ n x e.
      let within : n < length literals = slice_get_within literals n x e in
      let there = some_there entries n (omega (arith, first.many)) in
      (n, there.0, there.1, cc (first.each n there.0 there.1).1);
}

-- the same entries in another order
pub moved : {literals : List (List ℕ)} (xs ys : List LiteralEntry) → IsPermutation xs ys → AreLiterals literals xs
    → AreLiterals literals ys
moved {literals} xs ys perm are = record {
  numbered =
      λ k w e. rw (get_or_from_slice_get ys k w w e) at
      (All-permutation (λ w. slice_get literals w.number ≡ Some w.text.now) xs ys perm
      (λ i d lt. are.numbered i (get_or xs i d) (slice_get-get_or xs i d lt)) k w (slice_get_within ys k w e));
  whole = λ n x e.
      let old = are.whole n x e in
      let new =
      Contains-permutation xs ys old.1 perm
      (old.0, slice_get_within xs old.0 old.1 old.2, get_or_from_slice_get xs old.0 old.1 old.1 old.2) in
      (new.0, old.1, cc (slice_get-get_or ys new.0 old.1 new.1, new.2), old.3);
}

pub sorted_is_ordered : (entries : List LiteralEntry)
    → IsSortedByKey (λ (w : LiteralEntry). w.text) (λ x y. slice_cmp nat_cmp x.now y.now) entries → AreOrdered entries
sorted_is_ordered entries up = record {
  each = λ i j a b le at there.
      let far =
      sorted_far _ (ranks_by (on_texts (λ (x : Bor (List ℕ)). x.now)) (λ (w : LiteralEntry). w.text)) entries up i j a le
      (slice_get_within entries j b there) in
      not_less a.text.now b.text.now
      (rw (get_or_from_slice_get entries j b a there, get_or_from_slice_get entries i a a at) at far);
}

-- ---- the position of the text among the entries

-- whether an entry is not after the text
abbrev pub is_up_to : List ℕ → LiteralEntry → Bool
is_up_to text w = is_le (slice_cmp nat_cmp w.text.now text)

up_of_test : (a b : List ℕ) → is_le (slice_cmp nat_cmp a b) ≡ true → IsNotAfter a b
up_of_test a b h = record { up = grind arith }

test_of_up : {a b : List ℕ} → IsNotAfter a b → is_le (slice_cmp nat_cmp a b) ≡ true
test_of_up h = let up = h.up in grind arith

pub parted : (entries : List LiteralEntry) (text : List ℕ) → AreOrdered entries → IsPartitionedBy (is_up_to text) entries
parted entries text ordered i j d le within passes =
    let first = slice_get-get_or entries i d (omega arith) in
    let second = slice_get-get_or entries j d within in
    test_of_up (up_up (ordered.each i j _ _ le first second) (up_of_test (get_or entries j d).text.now text passes))

-- the entries before the point where the test fails are not after the text, and none from there on is a prefix of it
module _ (entries : List LiteralEntry) (text : List ℕ) (n : ℕ)
    (point : IsPartitionPoint (λ w. is_up_to text w ≡ true) (λ w. is_up_to text w ≡ false) entries n) where
  pub up_to_point : AreNotAfter entries n text
  up_to_point = record {
    each = λ i w less at. up_of_test w.text.now text
        (rw (get_or_from_slice_get entries i w w at) at (point.0 i w (omega arith) less));
  }

  pub none_past_point : NoPrefix entries n (length entries) text
  none_past_point = record {
    none = λ i w low high at prefix.
        let fails = point.1 i w low high in
        let passes = test_of_up (prefix_is_up w.text.now text prefix) in
        let same = get_or_from_slice_get entries i w w at in
        grind arith;
  }

-- a link leads to an earlier entry
pub links_below : {entries : List LiteralEntry} {shorter : List (Option ℕ)} (last : ℕ) {o : Option ℕ} → AreLinked entries shorter
    → last < length entries → slice_get shorter last ≡ Some o → after_last o ≤ last
links_below {entries} last {o} linked within link =
    let (word, there) = some_there entries last within in
    let is = linked.each last word o there link in
    grind arith
