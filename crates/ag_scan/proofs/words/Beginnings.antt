-- The search for a literal by the first byte of a text.
use Rattle.std.proofs.Common.{Bor, ◌≡◌, ℕ, ◌+◌, ◌<◌, List, ◌∷◌, length, get_or, Option, Some, None, IfSome, IfNone}
use Rattle.std.proofs.Common.{MatchOption, slice_get, ap, sym, ◌∙◌, arith}
use Rattle.std.proofs.Math.ListN.{set}
use Rattle.std.proofs.lemmas.List.{length-set, get_or-set_other}
use Rattle.std.proofs.lemmas.Grind.{get_or-set_at}
use Rattle.std.proofs.lemmas.Option.{slice_get_within}
use Rattle.ag_scan.specs.declared.literals.LiteralEntry.{LiteralEntry}
use Rattle.ag_scan.specs.declared.starts.StartingLiterals.{StartingLiterals}
use Rattle.ag_scan.specs.declared.starts.StartingLiterals.TheVariants.{Sole}
use Rattle.ag_scan.specs.Table.{IsPrefix, IsTable, IsLongestPrefix, HasNoPrefix, AreCovered, Covers, with_one}
use Rattle.ag_scan.proofs.words.Tables.{compared}

-- if what is stored for a byte covers an entry, it still covers that entry after another one was added
still_covered : (k : ℕ) (s : StartingLiterals) (index : ℕ) → Covers k s → Covers k (with_one s index)
still_covered k s index h = grind arith

newly_covered : (s : StartingLiterals) (index : ℕ) → Covers index (with_one s index)
newly_covered s index = grind arith

-- after the entry with index `index`, whose first byte is b, was added, the first `index + 1` entries are covered
module _ {entries : List LiteralEntry} {starts : List StartingLiterals} {index b : ℕ} {rest : List ℕ} {w : LiteralEntry}
    {s : StartingLiterals} (exact : AreCovered entries starts index) (there : slice_get entries index ≡ Some w)
    (text : w.text.now ≡ b ∷ rest) (byte : b < 256) (is : get_or starts b s ≡ s) where
  within : b < length starts
  within = omega (arith, exact.whole)

  kept : (k c : ℕ) → ((d : StartingLiterals) → Covers k (get_or starts c d)) → (d : StartingLiterals)
      → Covers k (get_or (set starts b (with_one s index)) c d)
  kept k c old d = let at_d = old d in let at_s = old s in let still = still_covered k s index in
      grind (arith, get_or-set_other, get_or-set_at)

  by : (k : ℕ) (u : LiteralEntry) → k < index + 1 → slice_get entries k ≡ Some u
      → (c : ℕ) × (more : List ℕ) × (u.text.now ≡ c ∷ more)
      × ((d : StartingLiterals) → Covers k (get_or (set starts b (with_one s index)) c d))
  by k u below at =
      compared k index
      (λ less. let (c, rest, begin, covered) = exact.each k u less at in (c, rest, begin, kept k c covered))
      (λ same. (b, rest, cc, λ d. (let new = newly_covered s index in grind (arith, get_or-set_at))))
      (λ more. absurd (omega arith))

  pub one_covered : AreCovered entries (set starts b (with_one s index)) (index + 1)
  one_covered = record { whole = length-set starts b (with_one s index) ∙ exact.whole; each = by }

-- The result for a text with the first byte b, if only one entry is stored for b (`Sole`).
module _ {literals : List (List ℕ)} {entries : List LiteralEntry} {shorter : List (Option ℕ)}
    (table : IsTable literals entries shorter) {starts : List StartingLiterals}
    (exact : AreCovered entries starts (length entries)) {text : List ℕ} {b : ℕ} {rest : List ℕ} (e : text ≡ b ∷ rest)
    (d : StartingLiterals) {i : ℕ} (sole : get_or starts b d ≡ Sole i) where
  -- a literal that is a prefix of the text is this one
  sole_prefix : (n : ℕ) (x : List ℕ) → slice_get literals n ≡ Some x → IsPrefix x text
      → (w : LiteralEntry) × (slice_get entries i ≡ Some w) × (w.text.now ≡ x)
  sole_prefix n x at prefix =
      let (k, w, there, same) = table.literals_all.whole n x at in
      let (c, more, begin, covered) = exact.each k w (slice_get_within entries k w there) there in
      let both = rw (← same, begin) at (sym prefix.1 ∙ e) in
      let first : c ≡ b = cc in
      let here : i ≡ k = rw (first, sole) at (covered d) in
      (w, rw here there, same)

  pub sole_exact : (r : Option (Bor LiteralEntry)) → IfSome r (λ w. slice_get entries i ≡ Some w.now)
      → IfSome r (λ w. IsPrefix w.now.text.now text)
      → IfNone r ((w : LiteralEntry) → slice_get entries i ≡ Some w → IsPrefix w.text.now text → ⊥)
      → MatchOption r (HasNoPrefix literals text) (λ w. IsLongestPrefix literals text w.now)
  sole_exact None there prefix not_here =
      λ n x at is. (let (w, here, same) = sole_prefix n x at is in not_here w here (rw same is))
  sole_exact (Some w) there prefix not_here = record {
    numbered = table.literals_all.numbered i w.now there;
    prefix = prefix;
    longest = λ n x at is.
        let (u, here, same) = sole_prefix n x at is in
        let whole : w.now.text.now ≡ x = cc in
        omega (arith, ap length whole);
  }
