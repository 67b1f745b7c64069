-- Comparison of two lists that are cut at the same place.
use Rattle.std.proofs.Common.{◌≡◌, ◌↔◌, ◌≤◌, ◌+◌, ℕ, List, ◌++◌, length, take, drop, refl, sym, arith, length-append}
use Rattle.std.proofs.lemmas.List.{take-append-drop, take-take, take_at, drop_at, drop-take}

same_left : (l r l' r' : List ℕ) → l ++ r ≡ l' ++ r' → length l ≡ length l' → l ≡ l'
same_left l r l' r' e n = cc (take_at l r (length l) refl, take_at l' r' (length l) (sym n))

same_right : (l r l' r' : List ℕ) → l ++ r ≡ l' ++ r' → length l ≡ length l' → r ≡ r'
same_right l r l' r' e n = cc (drop_at l r (length l) refl, drop_at l' r' (length l) (sym n))

-- While `self` and `other` are compared, the lists `one` and `another` are left to compare. They are equal exactly if `self` and
-- `other` are equal. Their lengths are the same, and not greater than the length of `self`.
pub record IsComparing (self other one another : List ℕ) : Type 0 where
  pub answer : (one ≡ another) ↔ (self ≡ other)
  pub len : length one ≡ length another
  pub fewer : length one ≤ length self

-- `one` is cut into the sides l and r, and `another` into l' and r'; l and l' have the same length
pub record AreCut (one another l r l' r' : List ℕ) : Type 0 where
  pub first : one ≡ l ++ r
  pub second : another ≡ l' ++ r'
  pub len : length l ≡ length l'

-- if the left sides are equal, the right sides are left to compare
pub left_same : (self other one another l r l' r' : List ℕ) → IsComparing self other one another → AreCut one another l r l' r'
    → l ≡ l' → IsComparing self other r r'
left_same self other one another l r l' r' h c e =
    let sizes : length one ≡ length l + length r = cc (length-append l r) in
    let others : length another ≡ length l' + length r' = cc (length-append l' r') in
    record {
      answer = (
        λ f. h.answer.0 (cc (c.first, c.second, e, f)),
        λ f. same_right l r l' r' (cc (h.answer.1 f)) c.len,
      );
      len = omega (arith, h.len, c.len);
      fewer = omega (arith, h.fewer);
    }

-- if the right sides are equal, the left sides are left to compare
pub right_same : (self other one another l r l' r' : List ℕ) → IsComparing self other one another → AreCut one another l r l' r'
    → r ≡ r' → IsComparing self other l l'
right_same self other one another l r l' r' h c e =
    let sizes : length one ≡ length l + length r = cc (length-append l r) in
    record {
      answer = (
        λ f. h.answer.0 (cc (c.first, c.second, e, f)),
        λ f. same_left l r l' r' (cc (h.answer.1 f)) c.len,
      );
      len = c.len;
      fewer = omega (arith, h.fewer);
    }

-- the left sides are equal if `self` and `other` are equal
pub left_of_same : (self other one another l r l' r' : List ℕ) → IsComparing self other one another
    → AreCut one another l r l' r' → self ≡ other → l ≡ l'
left_of_same self other one another l r l' r' h c e = same_left l r l' r' (cc (h.answer.1 e)) c.len

-- the right sides are equal if `self` and `other` are equal
pub right_of_same : (self other one another l r l' r' : List ℕ) → IsComparing self other one another
    → AreCut one another l r l' r' → self ≡ other → r ≡ r'
right_of_same self other one another l r l' r' h c e = same_right l r l' r' (cc (h.answer.1 e)) c.len

pub ruleset sides = (left_same, right_same, left_of_same, right_of_same)

sum_taken : (n m : ℕ) (xs : List ℕ) → take (n + m) xs ≡ take n xs ++ take m (drop n xs)
sum_taken n m xs = cc (take-append-drop n (take (n + m) xs), take-take n (n + m) xs (omega arith), drop-take n m xs)

-- if two lists have the same first n elements, and the same m elements after these, they have the same first n + m elements
pub more_same : (n m : ℕ) (xs ys : List ℕ) → take n xs ≡ take n ys → take m (drop n xs) ≡ take m (drop n ys)
    → take (n + m) xs ≡ take (n + m) ys
more_same n m xs ys e f = cc (sum_taken n m xs, sum_taken n m ys)
