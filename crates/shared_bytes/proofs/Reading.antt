-- Reading a content piece by piece into a slice.
use Rattle.std.proofs.Common.{length-append, ◌≡◌, ◌≤◌, ◌<◌, ◌+◌, ◌-◌, min, inl, inr, ℕ, List, ◌++◌, length, take, drop, refl, sym}
use Rattle.std.proofs.Common.{ap, subst, ◌∷◌, ◌∙◌, arith}
use Rattle.std.proofs.lemmas.List.{take-append-le, drop-append-le, take-take, take_all, drop_at, drop-drop, drop-take}
use Rattle.std.proofs.lemmas.List.{take-append-drop, length-drop, length-take-le}
use Rattle.std.proofs.lemmas.Bool.{cases_lt}
use Rattle.std.proofs.lemmas.Slice.{take-put_mid}
use borrow.Rule.Slice.PartMut.{put_mid}
use Rattle.shared_bytes.specs.Reads.{HasRead}
use Rattle.shared_bytes.specs.Spliced.{AreSplices, spliced}
use Rattle.shared_bytes.specs.declared.splice.Splice.{Splice}

-- a part of a list that is written keeps its length
length_written : (from k : ℕ) (bytes out : List ℕ) → k ≡ length bytes → from + k ≤ length out
    → length (put_mid from k out bytes) ≡ length out
length_written from k bytes out e within =
    let a : length (take from out) ≡ from = length-take-le from out (omega arith) in
    let b : length (drop k (drop from out)) ≡ length out - from - k =
    length-drop k (drop from out) ∙ ap (λ n. n - k) (length-drop from out) in
    length-append (take from out) (bytes ++ drop k (drop from out)) ∙ omega (arith, length-append bytes (drop k (drop from out)))

sum_taken : (n m : ℕ) (xs : List ℕ) → take (n + m) xs ≡ take n xs ++ take m (drop n xs)
sum_taken n m xs =
    sym (take-append-drop n (take (n + m) xs))
    ∙ (ap (λ (t : List ℕ). t ++ drop n (take (n + m) xs)) (take-take n (n + m) xs (omega arith))
    ∙ ap (λ (t : List ℕ). take n xs ++ t) (drop-take n m xs))

-- what comes after a piece
pub after_piece : (place : ℕ) (content piece rest : List ℕ) → drop place content ≡ piece ++ rest
    → drop (place + length piece) content ≡ rest
after_piece place content piece rest e =
    sym (drop-drop (length piece) place content)
    ∙ (ap (λ (t : List ℕ). drop (length piece) t) e ∙ drop_at piece rest (length piece) refl)

-- a piece has none of the bytes that come next
pub none_read : (place at done n : ℕ) (content out : List ℕ) → HasRead place at done content out
    → (done < length out → place ≤ at + done → place + n ≤ at + done) → HasRead (place + n) at done content out
none_read place at done n content out h past =
    record { within = h.within; same = h.same; reached = λ less. past less (h.reached less) }

-- some of its bytes were copied
pub some_read : (place at done skip count k : ℕ) (content out piece rest x : List ℕ) → HasRead place at done content out
    → drop place content ≡ piece ++ rest → at + done ≡ place + skip
    → count ≡ min (length piece - skip) (length out - done) → skip ≤ length piece → x ≡ take count (drop skip piece) → k ≡ count
    → HasRead (place + length piece) at (done + count) content (put_mid done k out x)
some_read place at done skip count k content out piece rest x h e here n le is same =
    let tail : length (drop skip piece) ≡ length piece - skip = length-drop skip piece in
    let size : length x ≡ count = ap length is ∙ length-take-le count (drop skip piece) (omega arith) in
    let written : length (put_mid done k out x) ≡ length out =
    length_written done k x out (same ∙ sym size) (omega (arith, h.within)) in
    let a : take (done + count) (put_mid done k out x) ≡ take done out ++ x =
    take-put_mid done k out x (done + count) (omega arith) h.within in
    let following : drop done (drop at content) ≡ drop skip piece ++ rest =
    drop-drop done at content
    ∙ (ap (λ i. drop i content) here
    ∙ (sym (drop-drop skip place content) ∙ (ap (λ (t : List ℕ). drop skip t) e ∙ drop-append-le skip piece rest le))) in
    let part : take count (drop done (drop at content)) ≡ x =
    ap (λ (t : List ℕ). take count t) following ∙ (take-append-le count (drop skip piece) rest (omega arith) ∙ sym is) in
    let b : take (done + count) (drop at content) ≡ take done out ++ x =
    sum_taken done count (drop at content)
    ∙ (ap (λ (t : List ℕ). t ++ take count (drop done (drop at content))) (sym h.same)
    ∙ ap (λ (t : List ℕ). take done out ++ t) part) in
    record {
      within = omega (arith, h.within);
      same = a ∙ sym b;
      reached = λ less. omega (arith, less, written);
    }

-- all bytes were read
pub all_read : (place at done : ℕ) (content out : List ℕ) → HasRead place at done content out → at + length out ≤ place
    → out ≡ take (length out) (drop at content)
all_read place at done content out h le =
    let whole : length out ≤ done =
    elim (cases_lt done (length out)) [ inl less ↦ absurd (let far = h.reached less in omega arith) | inr not ↦ not ] in
    let e : done ≡ length out = omega (arith, h.within) in
    sym (take_all (length out) out (omega arith))
    ∙ (ap (λ i. take i out) (sym e) ∙ (h.same ∙ ap (λ i. take i (drop at content)) e))

-- before the first piece, no byte was read
pub none_at_first : (at : ℕ) (content out : List ℕ) → HasRead 0 at 0 content out
none_at_first at content out = record { within = omega arith; same = refl; reached = λ less. omega arith }

-- A step of reading a body, at its splice g. The body begins at offset `at` of the list, after `base` own bytes. It has the own
-- bytes `own` and the bytes `content`. From offset `place` on, `content` has the own bytes from index `from` of `own` up to g,
-- then the bytes of g, then the own bytes after g with the splices `rest`.
pub record IsTurn (base at from place : ℕ) (own content : List ℕ) (g : Splice) (rest : List Splice) : Type 0 where
  pub from_here : base ≤ g.own
  pub forward : from ≤ g.own - base
  pub within : g.own - base ≤ length own
  pub at_here : at ≤ g.at
  pub own_part : drop place content ≡ take (g.own - base - from) (drop from own)
      ++ (g.bytes ++ spliced g.own (drop (g.own - base) own) rest)
  pub splice_at : place + length (take (g.own - base - from) (drop from own)) ≡ g.at - at
  pub splice_part : drop (g.at - at) content ≡ g.bytes ++ spliced g.own (drop (g.own - base) own) rest
  pub following : drop ((g.at - at) + length g.bytes) content ≡ spliced g.own (drop (g.own - base) own) rest

pub turn : (base at from place total : ℕ) (own content : List ℕ) (gs : List Splice) (g : Splice) (rest : List Splice)
    → gs ≡ g ∷ rest
    → AreSplices (base + from) (at + place) (base + length own) total gs
    → drop place content ≡ spliced (base + from) (drop from own) gs
    → IsTurn base at from place own content g rest
turn base at from place total own content gs g rest e splices is =
    let h : AreSplices (base + from) (at + place) (base + length own) total (g ∷ rest) =
    subst (λ (xs : List Splice). AreSplices (base + from) (at + place) (base + length own) total xs) e splices in
    let s : drop place content ≡ spliced (base + from) (drop from own) (g ∷ rest) =
    is ∙ ap (λ (xs : List Splice). spliced (base + from) (drop from own) xs) e in
    let n : g.own - (base + from) ≡ g.own - base - from = omega arith in
    let d : drop (g.own - (base + from)) (drop from own) ≡ drop (g.own - base) own =
    drop-drop (g.own - (base + from)) from own ∙ ap (λ i. drop i own) (omega (arith, h.0)) in
    let a : take (g.own - (base + from)) (drop from own) ≡ take (g.own - base - from) (drop from own) =
    ap (λ i. take i (drop from own)) n in
    let size : length (take (g.own - base - from) (drop from own)) ≡ g.own - base - from =
    length-take-le (g.own - base - from) (drop from own) (omega (arith, length-drop from own, h.0, h.1)) in
    let own_part : drop place content ≡ take (g.own - base - from) (drop from own)
    ++ (g.bytes ++ spliced g.own (drop (g.own - base) own) rest) =
    s ∙ (ap (λ (t : List ℕ). take (g.own - (base + from)) (drop from own) ++ (g.bytes ++ spliced g.own t rest)) d
    ∙ ap (λ (t : List ℕ). t ++ (g.bytes ++ spliced g.own (drop (g.own - base) own) rest)) a) in
    let splice_at : place + length (take (g.own - base - from) (drop from own)) ≡ g.at - at = omega (arith, h.0, h.2) in
    let splice_part : drop (g.at - at) content ≡ g.bytes ++ spliced g.own (drop (g.own - base) own) rest =
    ap (λ i. drop i content) (sym splice_at)
    ∙ after_piece place content (take (g.own - base - from) (drop from own))
    (g.bytes ++ spliced g.own (drop (g.own - base) own) rest) own_part in
    record {
      from_here = omega (arith, h.0);
      forward = omega (arith, h.0);
      within = omega (arith, h.0, h.1);
      at_here = omega (arith, h.2);
      own_part = own_part;
      splice_at = splice_at;
      splice_part = splice_part;
      following = after_piece (g.at - at) content g.bytes (spliced g.own (drop (g.own - base) own) rest) splice_part;
    }
