-- Texts of digits, as the standard library parses them.
use Rattle.std.proofs.Common.{◌≡◌, ℕ, ℤ, ◌+◌, ◌-◌, ◌*◌, ◌≤◌, ◌<◌, pos, true, false, ◌==◌, nat_le, List, [], ◌∷◌, length, Some, ap}
use Rattle.std.proofs.Common.{None, Result, Err, chars, encode_utf8_all, refl, sym, ◌∙◌, arith, rules}
use Rattle.std.specs.Char.{is_ascii_digit, digit_value}
use Rattle.std.specs.List.{list_all, prefix_len}
use Rattle.std.specs.Str.Parse.{digits_value, digits_value_after, ParsesUnsigned, ParsesSigned}
use Rattle.std.proofs.lemmas.Bool.Decides.{nat_tests}
use Rattle.std.proofs.lemmas.List.Folds.{length-prefix_len}
use Rattle.std.proofs.lemmas.Str.{encode_ascii}
use Rattle.std.proofs.lemmas.Str.Parse.{IsNumeralModel, numerals_by_value, parse_digits, parse_signed_digits}
use mir.Syntax.{w64}
use Rattle.ag_tokens.specs.GrammarToken as token
use Rattle.ag_tokens.specs.Tokens.{IsDigits}
use Rattle.ag_tokens.specs.declared.lexer.Class.TheVariants as class
use Rattle.ag_tokens.specs.Lexing.{prefix_in, rest_in, digits_from, number_from, plain_from, token_from}
use Rattle.ag_tokens.proofs.Prefixes.{prefix_passes, take_more, drop_more}

own : IsNumeralModel (λ ds. list_all is_ascii_digit ds ≡ true) (digits_value 10)
own = numerals_by_value _ (search rules)

-- a digit takes one byte
pub digits_encoded : (ds : List ℕ) → list_all is_ascii_digit ds ≡ true → encode_utf8_all ds ≡ ds
digits_encoded [] all = refl
digits_encoded (d ∷ ds) all = let more = digits_encoded ds in grind (arith, nat_tests, encode_ascii, more)

-- digits that do not parse as a place (16 bits) or as a number literal (64 bits) are a number above the limit
pub place_refused : {E : Type 0} (ds : List ℕ) (e : E) → IsDigits ds → (let r : Result ℕ E = Err e in ParsesUnsigned 16 10 ds r)
    → nat_le (digits_value 10 ds) 65535 ≡ false
place_refused ds e is parses = let bad = parse_digits own 16 ds (Err e) parses is.1 in grind (arith, nat_tests)

pub number_refused : {E : Type 0} (ds : List ℕ) (e : E) → IsDigits ds → (let r : Result ℤ E = Err e in ParsesSigned w64 10 ds r)
    → nat_le (digits_value 10 ds) 9223372036854775807 ≡ false
number_refused ds e is parses = let bad = parse_signed_digits own w64 ds (Err e) parses is.1 in grind (arith, nat_tests)

-- the longest prefix of digits, as the lexer reads it
module _ (cs word : List ℕ) (is : word ≡ encode_utf8_all (prefix_in class.Digit cs)) where
  word_is : word ≡ prefix_in class.Digit cs
  word_is = is ∙ digits_encoded (prefix_in class.Digit cs) (prefix_passes is_ascii_digit cs)

  pub no_digits_cut : (length word == 0) ≡ true → digits_from cs ≡ None
  no_digits_cut empty = let same = word_is in let none = length-prefix_len is_ascii_digit cs in grind (arith, nat_tests)

  pub digits_cut : (length word == 0) ≡ false → (back : List ℕ) → back ≡ rest_in class.Digit cs
      → digits_from cs ≡ Some (word, back)
  digits_cut some back same = let is = word_is in grind (arith, nat_tests)

  pub digits_are : (length word == 0) ≡ false → IsDigits word
  digits_are some = let same = word_is in let all = prefix_passes is_ascii_digit cs in grind (arith, nat_tests)

-- ---- a number computed digit by digit

prefix_value : (n c : ℕ) (cs : List ℕ) → is_ascii_digit c ≡ true
    → digits_value_after 10 n (prefix_in class.Digit (c ∷ cs))
    ≡ digits_value_after 10 (n * 10 + (c - 48)) (prefix_in class.Digit cs)
prefix_value n c cs is = let value : digit_value c ≡ c - 48 = grind (arith, nat_tests) in
    rw (is, take_more) (ap (λ d. digits_value_after 10 (n * 10 + d) (prefix_in class.Digit cs)) value)

-- The digits of `cs` up to the beginning of `rest` have been read, and their value is `number`.
pub record WorkedOut (cs : List ℕ) (number : ℕ) (rest : List ℕ) : Type 0 where
  pub small : number < 1000000000000000000
  pub value : digits_value_after 10 number (prefix_in class.Digit (chars rest)) ≡ digits_value 10 (prefix_in class.Digit cs)
  pub back : rest_in class.Digit (chars rest) ≡ rest_in class.Digit cs

pub begins : {c : ℕ} {text : List ℕ} → is_ascii_digit c ≡ true → WorkedOut (c ∷ chars text) (c - 48) text
begins {c} {text} is = record {
  small = grind (arith, nat_tests);
  value = let none : 0 * 10 + (c - 48) ≡ c - 48 = omega arith in
      sym (prefix_value 0 c (chars text) is ∙ ap (λ n. digits_value_after 10 n (prefix_in class.Digit (chars text))) none);
  back = rw (is, drop_more);
}

pub goes_on : {cs rest following : List ℕ} {number c : ℕ} → is_ascii_digit c ≡ true → chars rest ≡ c ∷ chars following
    → number ≤ 99999999999999999 → WorkedOut cs number rest → WorkedOut cs (number * 10 + (c - 48)) following
goes_on {following} {number} {c} is split small so_far = record {
  small = grind (arith, nat_tests);
  value = sym (prefix_value number c (chars following) is) ∙ (rw split at so_far.value);
  back = rw (split, is, drop_more) at so_far.back;
}

module _ {cs rest : List ℕ} {number : ℕ} (none : prefix_len is_ascii_digit (chars rest) ≡ 0)
    (so_far : WorkedOut cs number rest) where
  pub value_of : number ≡ digits_value 10 (prefix_in class.Digit cs)
  value_of = rw none at so_far.value

  pub rest_of : chars rest ≡ rest_in class.Digit cs
  rest_of = rw none at so_far.back

-- ---- by the first character

digits_first : (c : ℕ) (cs : List ℕ) → is_ascii_digit c ≡ true
    → digits_from (c ∷ cs) ≡ Some (prefix_in class.Digit (c ∷ cs), rest_in class.Digit (c ∷ cs))
digits_first c cs is = grind arith

pub no_digit : (c : ℕ) (cs : List ℕ) → is_ascii_digit c ≡ false → digits_from (c ∷ cs) ≡ None
no_digit c cs is = grind arith

pub some_digit : (c : ℕ) (cs : List ℕ) → is_ascii_digit c ≡ true → plain_from (c ∷ cs) ≡ number_from (c ∷ cs)
some_digit c cs is = rw (digits_first c cs is)

pub numbered_token : (c : ℕ) (cs : List ℕ) → is_ascii_digit c ≡ true
    → token_from (c ∷ cs) ≡ Some (
      token.Number (pos (digits_value 10 (prefix_in class.Digit (c ∷ cs)))),
      rest_in class.Digit (c ∷ cs),
    )
unfolding token_from
numbered_token c cs is =
    let other : ((c == 34) ≡ false) × ((c == 36) ≡ false) = grind (arith, nat_tests) in
    rw (other.0, other.1, digits_first c cs is)
