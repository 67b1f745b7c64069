-- The numbers and texts in a spelling: reading returns what was written, and writing returns the bytes that were read.
use Rattle.std.proofs.Common.{◌≡◌, ℕ, suc, ◌+◌, ◌^◌, ◌<◌, ◌≤◌, Bool, true, false, cond, ltb, List, ◌∷◌, ◌++◌, length, get_or}
use Rattle.std.proofs.Common.{take, drop, Option, Some, None, refl, sym, subst, append_assoc, arith, inl, inr}
use Rattle.std.specs.Int.{Width, w32, w64, byte_len, from_be_bytes, to_be_bytes}
use Rattle.std.specs.Str.{is_utf8}
use Rattle.std.proofs.lemmas.Bool.{cases_lt, ltb-false, le-ltb}
use Rattle.std.proofs.lemmas.List.{take_at, drop_at, take-append-drop, length-append, length-take, get_or-drop, get_or-take}
use Rattle.std.proofs.lemmas.List.{get_or_past}
use Rattle.std.proofs.lemmas.Option.{none-some, cond_some, option_and_then_some, some_pair_parts}
use Rattle.std.proofs.lemmas.Nat.{be_bytes_4, be_bytes_8, from_be_bytes-to_be_bytes_4, from_be_bytes-to_be_bytes_8}
use Rattle.ag_value.specs.Spelling.{counted}
use Rattle.ag_value.specs.Reading.{number_at, text_at}

-- each of these numbers is a byte
abbrev pub IsBytes : List ℕ → Type 0
IsBytes bytes = (i : ℕ) → get_or bytes i 0 < 256

pub IsBytes-drop : (n : ℕ) (bytes : List ℕ) → IsBytes bytes → IsBytes (drop n bytes)
IsBytes-drop n bytes is i = rw get_or-drop (is (n + i))

IsBytes-take : (n : ℕ) (bytes : List ℕ) → IsBytes bytes → IsBytes (take n bytes)
IsBytes-take n bytes is i =
    elim (cases_lt i n) [
      | inl lt ↦ rw (get_or-take n bytes i 0 lt) (is i)
      | inr le ↦ rw (get_or_past (take n bytes) i 0 (omega (arith, length-take n bytes))) (omega arith)
    ]

pub IsBytes-rest : (b : ℕ) (bytes : List ℕ) → IsBytes (b ∷ bytes) → IsBytes bytes
IsBytes-rest b bytes is i = is (suc i)

-- a test that would have made the result `None` was false
pub unless_some : {A : Type 0} (b : Bool) (x : Option A) (y : A) → cond b None x ≡ Some y → (b ≡ false) × (x ≡ Some y)
unless_some true x y e = absurd (none-some y e)
unless_some false x y e = (refl, e)

-- the bytes are `text` and then `rest`, and each number of `rest` is a byte
pub record Takes (bytes text rest : List ℕ) : Type 0 where
  pub parts : bytes ≡ text ++ rest
  pub are_bytes : IsBytes rest

pub Takes-then : (a x b y c : List ℕ) → Takes a x b → Takes b y c → Takes a (x ++ y) c
Takes-then a x b y c p q =
    record { parts = cc (append_assoc x y c); are_bytes = q.are_bytes }

pub Takes-tag : (tag : ℕ) (a x b : List ℕ) → Takes a x b → Takes (tag ∷ a) (tag ∷ x) b
Takes-tag tag a x b p = record { parts = cc; are_bytes = p.are_bytes }

-- ---- numbers

-- a number of a width and its bytes determine each other
pub record IsWide (w : Width) (limit : ℕ) : Type 0 where
  pub len : (n : ℕ) → length (to_be_bytes w n) ≡ byte_len w
  pub back : (bytes : List ℕ) → length bytes ≡ byte_len w → IsBytes bytes → to_be_bytes w (from_be_bytes w bytes) ≡ bytes
  pub again : (n : ℕ) → n < limit → from_be_bytes w (to_be_bytes w n) ≡ n
  pub below : (bytes : List ℕ) → IsBytes bytes → from_be_bytes w bytes < limit

pub wide32 : IsWide w32 (2 ^ 32)
wide32 = record {
  len = λ n. refl;
  back = λ bytes len is. be_bytes_4 bytes _ len is refl;
  again = λ n lt. from_be_bytes-to_be_bytes_4 n lt;
  below = λ bytes is. omega (arith, is 0, is 1, is 2, is 3);
}

pub wide64 : IsWide w64 (2 ^ 64)
wide64 = record {
  len = λ n. refl;
  back = λ bytes len is. be_bytes_8 bytes _ len is refl;
  again = λ n lt. from_be_bytes-to_be_bytes_8 n lt;
  below = λ bytes is. omega (arith, is 0, is 1, is 2, is 3, is 4, is 5, is 6, is 7);
}

pub number_takes : (w : Width) (limit : ℕ) (wide : IsWide w limit) (bytes : List ℕ) (n : ℕ) (rest : List ℕ) → IsBytes bytes
    → number_at w bytes ≡ Some (n, rest) → Takes bytes (to_be_bytes w n) rest × (n < limit)
number_takes w limit wide bytes n rest is e =
    let g =
    unless_some (ltb (length bytes) (byte_len w)) (Some (from_be_bytes w (take (byte_len w) bytes), drop (byte_len w) bytes))
    (n, rest) e in
    let same = some_pair_parts (from_be_bytes w (take (byte_len w) bytes)) n (drop (byte_len w) bytes) rest g.1 in
    let long : byte_len w ≤ length bytes = ltb-false _ _ g.0 in
    let n-is = same.0 in
    let rest-is = same.1 in
    let prefix : to_be_bytes w n ≡ take (byte_len w) bytes =
    rw (← n-is)
    (wide.back (take (byte_len w) bytes) (omega (arith, length-take (byte_len w) bytes))
    (IsBytes-take (byte_len w) bytes is)) in (
      record {
        parts = rw (prefix, ← rest-is) (sym (take-append-drop (byte_len w) bytes));
        are_bytes = rw (← rest-is) (IsBytes-drop (byte_len w) bytes is);
      },
      rw (← n-is) (wide.below (take (byte_len w) bytes) (IsBytes-take (byte_len w) bytes is)),
    )

pub number_again : (w : Width) (limit : ℕ) (wide : IsWide w limit) (n : ℕ) (rest : List ℕ) → n < limit
    → number_at w (to_be_bytes w n ++ rest) ≡ Some (n, rest)
number_again w limit wide n rest lt =
    let len = wide.len n in
    let long : ltb (length (to_be_bytes w n ++ rest)) (byte_len w) ≡ false =
    le-ltb _ _ (omega (arith, length-append (to_be_bytes w n) rest)) in
    rw (long, take_at (to_be_bytes w n) rest (byte_len w) len, drop_at (to_be_bytes w n) rest (byte_len w) len, wide.again n lt)
    refl

-- ---- texts

pub text_takes : (bytes text rest : List ℕ) → IsBytes bytes → text_at bytes ≡ Some (text, rest)
    → Takes bytes (counted text) rest × (is_utf8 text ≡ true)
unfolding text_at
text_takes bytes text rest is e =
    option_and_then_some
    (λ n. cond (ltb (length n.1) n.0) None (cond (is_utf8 (take n.0 n.1)) (Some (take n.0 n.1, drop n.0 n.1)) None))
    (number_at w32 bytes) (text, rest) e (λ n read some.
    let t = number_takes w32 (2 ^ 32) wide32 bytes n.0 n.1 is read in
    let g =
    unless_some (ltb (length n.1) n.0) (cond (is_utf8 (take n.0 n.1)) (Some (take n.0 n.1, drop n.0 n.1)) None)
    (text, rest) some in
    let h = cond_some (is_utf8 (take n.0 n.1)) (take n.0 n.1, drop n.0 n.1) (text, rest) g.1 in
    let long : n.0 ≤ length n.1 = ltb-false _ _ g.0 in
    let len : length (take n.0 n.1) ≡ n.0 = omega (arith, length-take n.0 n.1) in
    let second : Takes n.1 (take n.0 n.1) (drop n.0 n.1) =
    record { parts = sym (take-append-drop n.0 n.1); are_bytes = IsBytes-drop n.0 n.1 t.0.are_bytes } in
    let both = Takes-then bytes (to_be_bytes w32 n.0) n.1 (take n.0 n.1) (drop n.0 n.1) t.0 second in
    let whole : Takes bytes (counted (take n.0 n.1)) (drop n.0 n.1) =
    subst (λ (k : ℕ). Takes bytes (to_be_bytes w32 k ++ take n.0 n.1) (drop n.0 n.1)) (sym len) both in
    subst (λ (p : List ℕ × List ℕ). Takes bytes (counted p.0) p.1 × (is_utf8 p.0 ≡ true)) h.1 (whole, h.0))

pub text_again : (text rest : List ℕ) → length text < 2 ^ 32 → is_utf8 text ≡ true
    → text_at (counted text ++ rest) ≡ Some (text, rest)
unfolding text_at
text_again text rest lt utf8 =
    let long : ltb (length (text ++ rest)) (length text) ≡ false = le-ltb _ _ (omega (arith, length-append text rest)) in
    let prefix = take_at text rest (length text) refl in
    rw (
      number_again w32 (2 ^ 32) wide32 (length text) (text ++ rest) lt,
      long,
      prefix,
      drop_at text rest (length text) refl,
      utf8,
    ) refl
