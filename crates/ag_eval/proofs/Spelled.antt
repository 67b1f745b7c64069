-- The numbers that texts spell, as the standard library parses them.
use Rattle.ag_eval.proofs.Common
use Common.{◌≡◌, ◌≢◌, ℕ, ℤ, pos, neg_ℤ, zero, suc, ◌<◌, ◌≤◌, ◌^◌, ◌==◌, Bool, true, false, cond, ◌&&◌, nat_lt, List, [], ◌∷◌}
use Common.{length, get_or, Some, None, Result, Ok, Err, refl, ap, arith, rules, eqb-true, eqb-false, list_all, OkIff, result_ok}
use Common.{is_i64}
use Rattle.std.proofs.lemmas.Bool.Decides.{Decides-and, Decides-ltb, Decides-like}
use Rattle.std.proofs.lemmas.Str.Parse.{IsNumeralModel, numerals_by_value, parse_signed_minus, parse_signed_plain}
use Rattle.std.specs.Bool.{Decides}
use Rattle.std.specs.Char.{is_ascii_digit}
use Rattle.std.specs.Str.Parse.{digits_value, ParsesSigned}
use mir.Syntax.{w64}
use Rattle.ag_value.specs.operations.Numbers.{is_digits, signed_number, spelled_number}

own : IsNumeralModel (λ ds. list_all is_ascii_digit ds ≡ true) (digits_value 10)
own = numerals_by_value _ (search rules)

-- the test b decides whether the fact P holds: the result is the number z if b is true, and none if it is false
answered : {E : Type 0} {P : Type 0} (b : Bool) (z : ℤ) (r : Result ℤ E) → Decides b P → OkIff r P z
    → result_ok r ≡ cond b (Some z) None
answered b z (Ok x) decides is = rw (decides.1 is.0) (ap Some is.1)
answered true z (Err e) decides is = absurd (is (decides.0 refl))
answered false z (Err e) decides is = refl

positive : (n : ℕ) → Decides (is_i64 (pos n)) (n < 2 ^ 63)
positive n = Decides-ltb n (2 ^ 63)

negative : (n : ℕ) → Decides (is_i64 (neg_ℤ (pos n))) (n ≤ 2 ^ 63)
negative zero = (λ _. omega arith, λ _. refl)
negative (suc n) = Decides-like (nat_lt n (2 ^ 63)) (λ lt. omega arith) (λ le. omega arith) (Decides-ltb n (2 ^ 63))

digits : (ds : List ℕ) → Decides (is_digits ds) ((0 < length ds) × (list_all is_ascii_digit ds ≡ true))
digits ds = Decides-and (nat_lt 0 (length ds)) (list_all is_ascii_digit ds) (Decides-ltb 0 (length ds)) (λ e. e, λ e. e)

both : {A B C : Type 0} (x y : Bool) → Decides x (A × B) → Decides y C → Decides (x && y) (B × A × C)
both x y p q = Decides-like (x && y) (λ h. (h.0.1, h.0.0, h.1)) (λ h. ((h.1, h.0), h.2)) (Decides-and x y p q)

pub parses : {E : Type 0} (bs : List ℕ) (r : Result ℤ E) → get_or bs 0 0 ≢ 43 → ParsesSigned w64 10 bs r
    → result_ok r ≡ spelled_number bs
parses {E = E} [] r plain is = go r (parse_signed_plain own w64 [] r is plain (λ e. omega arith))
  where
    go : (r : Result ℤ E) → OkIff r ((list_all is_ascii_digit [] ≡ true) × (0 < 0) × (digits_value 10 [] < 2 ^ 63))
        (pos (digits_value 10 [])) → result_ok r ≡ None
    go (Ok x) h = absurd (omega (arith, h.0.1))
    go (Err e) h = refl
parses {E = E} (b ∷ bs) r plain is = go (b == 45) refl
  where
    go : (t : Bool) → (b == 45) ≡ t → result_ok r ≡ cond t (signed_number neg_ℤ bs) (signed_number (λ z. z) (b ∷ bs))
    go true e =
        answered (is_digits bs && is_i64 (neg_ℤ (pos (digits_value 10 bs)))) (neg_ℤ (pos (digits_value 10 bs))) r
        (both (is_digits bs) (is_i64 (neg_ℤ (pos (digits_value 10 bs)))) (digits bs) (negative (digits_value 10 bs)))
        (parse_signed_minus own w64 (b ∷ bs) r is (eqb-true b 45 e))
    go false e =
        answered (is_digits (b ∷ bs) && is_i64 (pos (digits_value 10 (b ∷ bs)))) (pos (digits_value 10 (b ∷ bs))) r
        (both (is_digits (b ∷ bs)) (is_i64 (pos (digits_value 10 (b ∷ bs)))) (digits (b ∷ bs))
        (positive (digits_value 10 (b ∷ bs)))) (parse_signed_plain own w64 (b ∷ bs) r is plain (eqb-false b 45 e))
