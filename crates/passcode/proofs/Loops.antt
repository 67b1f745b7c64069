-- Invariants of the loops that make a list.
use Rattle.passcode.proofs.Common
use Common.{ℕ, zero, suc, ◌≡◌, ◌+◌, ◌<◌, ◌≤◌, inl, inr, Bool, true, false, cond, List, [], ◌∷◌, ◌++◌, append_assoc, append-nil}
use Common.{Some, None, slice_get, get_or, length, refl, ap, ◌∙◌, sym, arith, flat_map, position, position_or_len, range_with_len}
use Common.{get_or_from_slice_get, cases_eq, le-ltb, lt-ltb, slice_get_within, slice_get-get_or, add-one}
use Rattle.std.proofs.lemmas.List.Sums.{position_or_len_is}

-- the pieces for n numbers from a on and then the piece for a + n are the pieces for n + 1 numbers from a on
pieces_more : {A : Type 0} (f : ℕ → List A) (n a : ℕ)
    → flat_map f (range_with_len a n) ++ f (a + n) ≡ flat_map f (range_with_len a (suc n))
pieces_more f zero a = let e : a + 0 ≡ a = omega arith in ap f e ∙ sym (append-nil (f a))
pieces_more f (suc n) a =
    let e : a + suc n ≡ a + 1 + n = omega arith in
    cc (append_assoc (f a) (flat_map f (range_with_len (a + 1) n)) (f (a + suc n)), pieces_more f n (a + 1))

pub pushed_more : {A : Type 0} (f : ℕ → List A) (n : ℕ) (old now new piece : List A)
    → now ≡ old ++ flat_map f (range_with_len 0 n) → new ≡ now ++ piece → piece ≡ f n
    → new ≡ old ++ flat_map f (range_with_len 0 (n + 1))
pushed_more f n old now new piece was push is =
    let e : 0 + n ≡ n = omega arith in
    rw (add-one n) (cc (append_assoc old (flat_map f (range_with_len 0 n)) piece, pieces_more f n 0))

-- if no member before index n passes a test: `position` is n if the member at n passes, and None if the list ends there
module _ {X : Type 0} (p : X → Bool) (xs : List X) (n : ℕ)
    (before : (i : ℕ) (x : X) → i < n → slice_get xs i ≡ Some x → p x ≡ false) where
  pub first_is : (x : X) → slice_get xs n ≡ Some x → p x ≡ true → position p xs ≡ Some n
  first_is x at passes =
      let within = slice_get_within xs n x at in
      let it = get_or_from_slice_get xs n x x at in
      let found : position_or_len p xs ≡ n = position_or_len_is p xs n x (omega arith)
      (λ i less. before i (get_or xs i x) less (slice_get-get_or xs i x (omega arith))) (λ less. ap p it ∙ passes) in
      ap (λ b. cond b (Some (position_or_len p xs)) None) (lt-ltb (position_or_len p xs) (length xs) (omega arith))
      ∙ ap Some found

  pub none_is : length xs ≤ n → position p xs ≡ None
  none_is most = ap (λ b. cond b (Some (position_or_len p xs)) None) (le-ltb (position_or_len p xs) (length xs) (past xs refl))
    where
      past : (ys : List X) → xs ≡ ys → length xs ≤ position_or_len p xs
      past [] e = let none = ap length e in omega arith
      past (y ∷ ys) e =
          let found : position_or_len p xs ≡ length xs = position_or_len_is p xs (length xs) y (omega arith)
          (λ i less. before i (get_or xs i y) (omega arith) (slice_get-get_or xs i y less)) (λ less. absurd (omega arith)) in
          omega arith

  pub before_more : (x : X) → slice_get xs n ≡ Some x → p x ≡ false → (i : ℕ) (y : X) → i < n + 1 → slice_get xs i ≡ Some y
      → p y ≡ false
  before_more x at fails i y less is = elim (cases_eq i n) [
    | inl same ↦ (let one : x ≡ y = cc in rw one at fails)
    | inr other ↦ before i y (omega arith) is
  ]
