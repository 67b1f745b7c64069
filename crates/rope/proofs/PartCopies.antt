-- A slice into which a part of a rope is being copied.
use Rattle.std.proofs.Common.{◌≡◌, ◌≤◌, ◌+◌, ◌-◌, ℕ, suc, ◌∷◌, List, ◌++◌, [], length, take, drop, refl, sym, ap, ◌∙◌, arith}
use Rattle.std.proofs.Common.{length-append, append_assoc}
use Rattle.std.proofs.lemmas.List.{drop-append-le, drop-drop, drop_at, length-drop, length-take-le}
use Rattle.std.proofs.lemmas.List.{take-append-le, take_all}
use Rattle.std.proofs.lemmas.Slice.{take-put_mid, take-put_mid_below, drop-put_mid}
use borrow.Rule.Slice.PartMut.{put_mid}

-- The bytes of `out` from index `at` to index `end` are still to be filled, with those of the rope from index `from` on. After
-- that `out` is `whole`. In the lemmas the rope has the sides l and r, and each lemma states what is still to be copied after a
-- step of the loop.
pub record IsCopying (at end from : ℕ) (rope out whole : List ℕ) : Type 0 where
  pub whole_is : take at out ++ (take (end - at) (drop from rope) ++ drop end out) ≡ whole
  pub ordered : at ≤ end
  pub within : end ≤ length out
  pub available : from + (end - at) ≤ length rope

length_written : (from k : ℕ) (bytes out : List ℕ) → k ≡ length bytes → from + k ≤ length out
    → length (put_mid from k out bytes) ≡ length out
length_written from k bytes out e within =
    let before : length (take from out) ≡ from = length-take-le from out (omega arith) in
    let after : length (drop k (drop from out)) ≡ length out - from - k =
    cc (length-drop k (drop from out), length-drop from out) in
    length-append (take from out) (bytes ++ drop k (drop from out))
    ∙ omega (arith, length-append bytes (drop k (drop from out)))

drop_left : (from : ℕ) (l r : List ℕ) → length l ≤ from → drop from (l ++ r) ≡ drop (from - length l) r
drop_left from l r le =
    let e : length l + (from - length l) ≡ from = omega arith in
    cc (drop-drop (from - length l) (length l) (l ++ r), drop_at l r (length l) refl)

-- all bytes to be copied are in the right side
pub all_right : (at end from : ℕ) (rope l r out whole : List ℕ) → IsCopying at end from rope out whole → rope ≡ l ++ r
    → length l ≤ from → IsCopying at end (from - length l) r out whole
all_right at end from rope l r out whole h e le =
    let same : drop from rope ≡ drop (from - length l) r = cc (drop_left from l r le) in
    record {
      whole_is = cc;
      ordered = h.ordered;
      within = h.within;
      available = omega (arith, h.available, ap length e, length-append l r);
    }

take_left : (n from : ℕ) (l r : List ℕ) → from + n ≤ length l → take n (drop from (l ++ r)) ≡ take n (drop from l)
take_left n from l r le =
    cc (drop-append-le from l r (omega arith), take-append-le n (drop from l) r (omega (arith, length-drop from l)))

-- all bytes to be copied are in the left side
pub all_left : (at end from : ℕ) (rope l r out whole : List ℕ) → IsCopying at end from rope out whole → rope ≡ l ++ r
    → from + (end - at) ≤ length l → IsCopying at end from l out whole
all_left at end from rope l r out whole h e le =
    let same : take (end - at) (drop from rope) ≡ take (end - at) (drop from l) = cc (take_left (end - at) from l r le) in
    record {
      whole_is = cc;
      ordered = h.ordered;
      within = h.within;
      available = le;
    }

take_beyond : (n : ℕ) (xs ys : List ℕ) → length xs ≤ n → take n (xs ++ ys) ≡ xs ++ take (n - length xs) ys
take_beyond n [] ys le = ap (λ i. take i ys) (omega arith)
take_beyond n (x ∷ xs) ys le =
    let e : n ≡ suc (n - 1) = omega arith in
    let f : n - 1 - length xs ≡ n - suc (length xs) = omega arith in cc (take_beyond (n - 1) xs ys (omega arith))

take_both : (n from k : ℕ) (l r : List ℕ) → from + k ≡ length l → k ≤ n
    → take n (drop from (l ++ r)) ≡ drop from l ++ take (n - k) r
take_both n from k l r e le =
    let size : length (drop from l) ≡ k = length-drop from l ∙ omega arith in
    cc (drop-append-le from l r (omega arith), take_beyond n (drop from l) r (omega arith))

-- the bytes to be copied are in both sides, and those of the left one were copied
pub left_copied : (at end from k middle : ℕ) (rope l r x out whole : List ℕ) → IsCopying at end from rope out whole
    → rope ≡ l ++ r → from + k ≡ length l → k ≤ end - at → middle ≡ at + k → x ≡ take k (drop from l)
    → IsCopying middle end 0 r (put_mid at k out x) whole
left_copied at end from k middle rope l r x out whole h e f le m i =
    let size : length (drop from l) ≡ k = length-drop from l ∙ omega arith in
    let x_is : x ≡ drop from l = i ∙ take_all k (drop from l) (omega arith) in
    let x_size : length x ≡ k = cc in
    let sizes : length rope ≡ length l + length r = cc (length-append l r) in
    let out_size : length (put_mid at k out x) ≡ length out =
    length_written at k x out (cc) (omega (arith, h.ordered, h.within)) in
    let before : take middle (put_mid at k out x) ≡ take at out ++ x =
    take-put_mid at k out x middle (omega arith) (omega (arith, h.ordered, h.within)) in
    let after : drop end (put_mid at k out x) ≡ drop end out =
    drop-put_mid at k out x end (omega arith) (omega (arith, h.ordered, h.within)) x_size in
    let rest : end - at - k ≡ end - middle = omega arith in
    let both : take (end - at) (drop from rope) ≡ x ++ take (end - middle) r = cc (take_both (end - at) from k l r f le) in
    record {
      whole_is = cc (
        append_assoc (take at out) x (take (end - middle) r ++ drop end out),
        append_assoc x (take (end - middle) r) (drop end out),
      );
      ordered = omega (arith, h.ordered);
      within = omega (arith, h.within);
      available = omega (arith, h.available, h.ordered);
    }

-- the bytes to be copied are in both sides, and those of the right one were copied
pub right_copied : (at end from k middle m : ℕ) (rope l r x out whole : List ℕ) → IsCopying at end from rope out whole
    → rope ≡ l ++ r → from + k ≡ length l → k ≤ end - at → middle ≡ at + k → m ≡ end - middle → x ≡ take m (drop 0 r)
    → IsCopying at middle from l (put_mid middle m out x) whole
right_copied at end from k middle m rope l r x out whole h e f le g n i =
    let size : length (drop from l) ≡ k = length-drop from l ∙ omega arith in
    let sizes : length rope ≡ length l + length r = cc (length-append l r) in
    let x_size : length x ≡ m = cc (length-take-le m r (omega (arith, h.available, h.ordered))) in
    let out_size : length (put_mid middle m out x) ≡ length out =
    length_written middle m x out (cc) (omega (arith, h.ordered, h.within)) in
    let before : take at (put_mid middle m out x) ≡ take at out =
    take-put_mid_below middle m out x at (omega arith) (omega (arith, h.ordered, h.within)) in
    let prefix : length (take middle out) ≡ middle = length-take-le middle out (omega (arith, h.ordered, h.within)) in
    let after : drop middle (put_mid middle m out x) ≡ x ++ drop end out =
    drop_at (take middle out) (x ++ drop m (drop middle out)) middle prefix
    ∙ ap (λ (t : List ℕ). x ++ t) (drop-drop m middle out ∙ ap (λ j. drop j out) (omega (arith, h.ordered))) in
    let left : take (middle - at) (drop from l) ≡ drop from l = take_all (middle - at) (drop from l) (omega arith) in
    let both : take (end - at) (drop from rope) ≡ drop from l ++ x =
    ap (λ (t : List ℕ). take (end - at) (drop from t)) e ∙ take_both (end - at) from k l r f le
    ∙ ap (λ (t : List ℕ). drop from l ++ t) (ap (λ j. take j r) (omega arith) ∙ sym i) in
    record {
      whole_is = cc (append_assoc (drop from l) x (drop end out));
      ordered = omega arith;
      within = omega (arith, h.within, h.ordered);
      available = omega arith;
    }
