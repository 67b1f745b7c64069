-- The examples of jobs that were worked out by hand. A search over the bytes shows that no separator begins before an offset.
use Rattle.std.proofs.Common.{ℕ, zero, suc, ◌≡◌, ◌+◌, ◌<◌, ◌≤◌, inl, inr, ◌∙◌, ap, refl, subst, List, [], ◌∷◌, ◌++◌, length}
use Rattle.std.proofs.Common.{codes, Bool, true, false, not, ◌==◌, ◌&&◌, ◌||◌, arith}
use Rattle.std.proofs.lemmas.Bool.{and_parts}
use Rattle.std.proofs.lemmas.List.{length-append}
use Rattle.ag_job.specs.Jobs.{AreWholeLines, HasNoSeparator, IsCut, IsSeparator}
use Rattle.ag_job.specs.Worked.{CrAloneIsNone, CrAndLfEnd, LongerIsNone, NothingBefore, SpacedIsNone, TheFirstCuts, TheLastEnds}

-- the last byte of a text, or `before` if the text is empty
abbrev last_after : ℕ → List ℕ → ℕ
last_after before [] = before
last_after before (byte ∷ bytes) = last_after byte bytes

joined_ends : (before : ℕ) (prefix : List ℕ) → last_after before (prefix ++ codes "\n") ≡ 10
joined_ends before [] = refl
joined_ends before (byte ∷ bytes) = joined_ends byte bytes

-- the last byte of a text of whole lines is LF (10); if the text is empty, it is the byte before the text, here LF too
whole_ends : (text : List ℕ) → AreWholeLines text → last_after 10 text ≡ 10
whole_ends text (inl none) = ap (last_after 10) none
whole_ends text (inr (prefix, e)) = ap (last_after 10) e ∙ joined_ends 10 prefix

-- the bytes begin with LF
abbrev feeds : List ℕ → Bool
feeds [] = false
feeds (byte ∷ bytes) = byte == 10

-- the bytes are empty or begin with the end of a line
abbrev ends : List ℕ → Bool
ends [] = true
ends (byte ∷ bytes) = (byte == 10) || ((byte == 13) && feeds bytes)

-- the bytes begin with a line `%%`
abbrev separates : List ℕ → Bool
separates [] = false
separates (first ∷ []) = false
separates (first ∷ second ∷ bytes) = (first == 37) && ((second == 37) && ends bytes)

separated : (separator rest : List ℕ) → IsSeparator separator rest → separates (separator ++ rest) ≡ true
separated separator rest (inl e) = ap (λ w. separates (w ++ rest)) e
separated separator rest (inr (inl e)) = ap (λ w. separates (w ++ rest)) e
separated separator rest (inr (inr (e, none))) = ap (λ w. separates (w ++ rest)) e ∙ ap (λ w. separates (codes "%%" ++ w)) none

-- no line `%%` begins at the first n offsets of bytes that follow the byte `before`
abbrev is_free : ℕ → List ℕ → ℕ → Bool
is_free before bytes zero = true
is_free before [] (suc n) = true
is_free before (byte ∷ bytes) (suc n) = not ((before == 10) && separates (byte ∷ bytes)) && is_free byte bytes n

-- if `is_free` holds of a text and the bytes after it, and a line `%%` begins after the text, the text has at least n bytes
after_free : (n before : ℕ) (text rest : List ℕ) → is_free before (text ++ rest) n ≡ true → last_after before text ≡ 10
    → separates rest ≡ true → n ≤ length text
after_free zero before text rest free ended separated = omega arith
after_free (suc n) before [] [] free ended separated = let bad : ⊥ = cc in absurd bad
after_free (suc n) before [] (byte ∷ rest) free ended separated =
    let here : not ((10 == 10) && true) && is_free byte rest n ≡ true =
    subst (λ it. not ((10 == 10) && it) && is_free byte rest n ≡ true) separated
    (subst (λ it. not ((it == 10) && separates (byte ∷ rest)) && is_free byte rest n ≡ true) ended free) in
    let bad : ⊥ = cc in absurd bad
after_free (suc n) before (byte ∷ text) rest free ended separated =
    let more : n ≤ length text =
    after_free n byte text rest
    ((and_parts (not ((before == 10) && separates (byte ∷ (text ++ rest)))) (is_free byte (text ++ rest) n) free).1) ended
    separated in
    omega (arith, more)

free_until : (n : ℕ) (bytes text sentence : List ℕ) → is_free 10 bytes n ≡ true → IsCut bytes text sentence → n ≤ length text
free_until n bytes text sentence free cut =
    after_free n 10 text (cut.separator ++ sentence) (subst (λ all. is_free 10 all n ≡ true) cut.all free)
    (whole_ends text cut.lines) (separated cut.separator sentence cut.is_separator)

-- if no line `%%` begins at any offset, the bytes have no separator
free_of_all : (bytes : List ℕ) → is_free 10 bytes (length bytes) ≡ true → HasNoSeparator bytes
free_of_all bytes free text sentence cut =
    let far = free_until (length bytes) bytes text sentence free cut in
    let long : length bytes ≡ length text + (length cut.separator + length sentence) =
    ap (λ (w : List ℕ). length w) cut.all ∙ length-append text (cut.separator ++ sentence)
    ∙ ap (λ n. length text + n) (length-append cut.separator sentence) in
    let some = separator_long cut.separator sentence cut.is_separator in
    omega (arith, far, long, some)
  where
    separator_long : (separator rest : List ℕ) → IsSeparator separator rest → 0 < length separator
    separator_long separator rest (inl e) = let n : length separator ≡ 3 = ap (λ (w : List ℕ). length w) e in omega (arith, n)
    separator_long separator rest (inr (inl e)) = let n : length separator ≡ 4 = ap (λ (w : List ℕ). length w) e in
        omega (arith, n)
    separator_long separator rest (inr (inr (e, none))) = let n : length separator ≡ 2 = ap (λ (w : List ℕ). length w) e in
        omega (arith, n)

pub cr_and_lf_end : CrAndLfEnd
cr_and_lf_end = record {
  cut = record { lines = inr (codes "a", refl); separator = codes "%%\r\n"; is_separator = inr (inl refl); all = refl };
  first = λ before following cut. free_until 2 _ before following refl cut;
}

pub the_last_ends : TheLastEnds
the_last_ends = record {
  cut = record { lines = inr (codes "a", refl); separator = codes "%%"; is_separator = inr (inr (refl, refl)); all = refl };
  first = λ before following cut. free_until 2 _ before following refl cut;
}

pub the_first_cuts : TheFirstCuts
the_first_cuts = record {
  cut = record { lines = inr (codes "a", refl); separator = codes "%%\n"; is_separator = inl refl; all = refl };
  first = λ before following cut. free_until 2 _ before following refl cut;
}

pub nothing_before : NothingBefore
nothing_before = record {
  cut = record { lines = inl refl; separator = codes "%%\n"; is_separator = inl refl; all = refl };
  first = λ before following cut. free_until 0 _ before following refl cut;
}

pub cr_alone_is_none : CrAloneIsNone
cr_alone_is_none = free_of_all (codes "a\n%%\r") refl

pub spaced_is_none : SpacedIsNone
spaced_is_none = free_of_all (codes "a\n %%\nb") refl

pub longer_is_none : LongerIsNone
longer_is_none = free_of_all (codes "a\n%%%\nb") refl
