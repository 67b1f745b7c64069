-- The search for the longest literal at the beginning of a text. All definitions are this project's. In this
-- file a text is the list of its bytes.
use Rattle.std.specs.Prelude.{◌≡◌, ℕ, ◌+◌, ◌<◌, ◌≤◌, false, List, ◌∷◌, ◌++◌, Option, Some, None, slice_get, get_or, length}
use Rattle.std.specs.Cmp.Lexicographic.{slice_cmp}
use Rattle.std.specs.Ordering.{nat_cmp, is_gt}
use Rattle.ag_grammar.specs.Lists.{Each}
use Rattle.ag_grammar.specs.grammars.Accepted.{max_literals}
use Rattle.ag_scan.specs.declared.literals.LiteralEntry.{LiteralEntry}
use Rattle.ag_scan.specs.declared.starts.StartingLiterals.{StartingLiterals}
use Rattle.ag_scan.specs.declared.starts.StartingLiterals.TheVariants.{Nothing, Sole, Several}

-- the bytes `prefix` are a prefix of the text
abbrev pub IsPrefix : List ℕ → List ℕ → Type 0
IsPrefix prefix text = (rest : List ℕ) × (text ≡ prefix ++ rest)

-- xs is not after ys in the order of texts (by bytes, a prefix first)
pub record IsNotAfter (xs ys : List ℕ) : Type 0 where
  pub up : is_gt (slice_cmp nat_cmp xs ys) ≡ false

-- none of the texts of the first `bound` entries is after `text` in the order of texts
pub record AreNotAfter (entries : List LiteralEntry) (bound : ℕ) (text : List ℕ) : Type 0 where
  pub each : (i : ℕ) (w : LiteralEntry) → i < bound → slice_get entries i ≡ Some w → IsNotAfter w.text.now text

-- no entry with an index from `low` up to, but not including, `high` has a text that is a prefix of `text`
pub record NoPrefix (entries : List LiteralEntry) (low high : ℕ) (text : List ℕ) : Type 0 where
  pub none : (i : ℕ) (w : LiteralEntry) → low ≤ i → i < high → slice_get entries i ≡ Some w → IsPrefix w.text.now text → ⊥

-- k is the index of the last of the first `bound` entries whose text is a prefix of `text`.
pub record IsLastPrefix (entries : List LiteralEntry) (bound : ℕ) (text : List ℕ) (k : ℕ) : Type 0 where
  pub below : k < bound
  pub word : LiteralEntry
  pub there : slice_get entries k ≡ Some word
  pub prefix : IsPrefix word.text.now text
  pub last : NoPrefix entries (k + 1) bound text

-- the index of the last of the first `bound` entries whose text is a prefix of `text`, if there is one
abbrev pub IsLastPrefixIfAny : List LiteralEntry → ℕ → List ℕ → Option ℕ → Type 0
IsLastPrefixIfAny entries bound text None = NoPrefix entries 0 bound text
IsLastPrefixIfAny entries bound text (Some k) = IsLastPrefix entries bound text k

-- the index after this one; 0 for `None`
abbrev pub after_last : Option ℕ → ℕ
after_last None = 0
after_last (Some k) = k + 1

-- For each entry e, `shorter` has the index of the last entry before e whose text is a prefix of the text of e, or `None`.
pub record AreLinked (entries : List LiteralEntry) (shorter : List (Option ℕ)) : Type 0 where
  pub each : (i : ℕ) (w : LiteralEntry) (o : Option ℕ) → slice_get entries i ≡ Some w → slice_get shorter i ≡ Some o
      → IsLastPrefixIfAny entries i w.text.now o

-- The entries are sorted by their texts.
pub record AreOrdered (entries : List LiteralEntry) : Type 0 where
  pub each : (i j : ℕ) (a b : LiteralEntry) → i ≤ j → slice_get entries i ≡ Some a → slice_get entries j ≡ Some b
      → IsNotAfter a.text.now b.text.now

-- The entries are those of the literals, each with its number.
pub record AreLiterals (literals : List (List ℕ)) (entries : List LiteralEntry) : Type 0 where
  pub numbered : Each (λ w. slice_get literals w.number ≡ Some w.text.now) entries
  pub whole : (n : ℕ) (x : List ℕ) → slice_get literals n ≡ Some x
      → (k : ℕ) × (w : LiteralEntry) × (slice_get entries k ≡ Some w) × (w.text.now ≡ x)

-- The entries are those of the literals, sorted by their texts. Each is linked by `shorter` (see `AreLinked`) to an entry whose
-- text is a prefix of its text, if there is one.
pub record IsTable (literals : List (List ℕ)) (entries : List LiteralEntry) (shorter : List (Option ℕ)) : Type 0 where
  pub literals_all : AreLiterals literals entries
  pub ordered : AreOrdered entries
  pub linked : AreLinked entries shorter
  pub equally_long : length shorter ≡ length entries
  pub few : length entries ≤ max_literals

-- The entry is that of a literal, and this literal is the longest one that is a prefix of the text.
pub record IsLongestPrefix (literals : List (List ℕ)) (text : List ℕ) (w : LiteralEntry) : Type 0 where
  pub numbered : slice_get literals w.number ≡ Some w.text.now
  pub prefix : IsPrefix w.text.now text
  pub longest : Each (λ x. IsPrefix x text → length x ≤ length w.text.now) literals

-- no literal is a prefix of the text
abbrev pub HasNoPrefix : List (List ℕ) → List ℕ → Type 0
HasNoPrefix literals text = Each (λ x. IsPrefix x text → ⊥) literals

-- what is stored for a byte, after the entry with this index, which begins with the byte, was added
abbrev pub with_one : StartingLiterals → ℕ → StartingLiterals
with_one Nothing index = Sole index
with_one (Sole other) index = Several
with_one Several index = Several

-- what is stored for a byte allows that the entry with index k begins with the byte; `Several` allows it for each entry
abbrev pub Covers : ℕ → StartingLiterals → Type 0
Covers k Nothing = ⊥
Covers k (Sole index) = index ≡ k
Covers k Several = Unit {0}

-- Each of the first `count` entries begins with a byte b, and the value stored for b does not exclude the entry.
-- (`get_or starts b d` is that value, or d if b is not an index of `starts`. The claim is for every d, also for `Nothing`, which
-- covers no entry, so b is an index.) It is not claimed that a stored value includes no other entries: with `Several` at each
-- byte all of this holds too, but the search is slower.
pub record AreCovered (entries : List LiteralEntry) (starts : List StartingLiterals) (count : ℕ) : Type 0 where
  pub whole : length starts ≡ 256
  pub each : (k : ℕ) (w : LiteralEntry) → k < count → slice_get entries k ≡ Some w
      → (b : ℕ) × (rest : List ℕ) × (w.text.now ≡ b ∷ rest) × ((d : StartingLiterals) → Covers k (get_or starts b d))
