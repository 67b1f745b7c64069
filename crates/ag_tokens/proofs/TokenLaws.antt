-- The lexer and the definition of tokens agree.
use Rattle.ag_tokens.proofs.Options.{none_or_some}
use Rattle.std.proofs.lemmas.Bool.{cases_eq, ne_eqb}
use Rattle.std.proofs.lemmas.Option.{none-some, option_and_then_some, some_pair_parts}
use Rattle.std.specs.Option.{option_and_then}
use Rattle.std.proofs.Common.{◌≡◌, ℕ, zero, suc, pos, ◌<◌, ◌≤◌, ◌≢◌, Bool, true, false, ◌==◌, List, [], ◌∷◌, ◌++◌, length}
use Rattle.std.proofs.Common.{inl, inr, take, drop, Option, Some, None, refl, ap, sym, lit<, arith, append_assoc}
use Rattle.std.proofs.Common.{encode_utf8, encode_utf8_all}
use Rattle.std.proofs.lemmas.List.{length-append, length-drop, length-take-le, take-append-drop, append-nil}
use Rattle.std.proofs.Math.Seq.{drop-append_seam, take-append_seam}
use Rattle.std.proofs.lemmas.List.Sums.{prefix_len-le-length}
use Rattle.std.proofs.lemmas.Bool.Decides.{nat_tests}
use Rattle.std.specs.Char.{is_ascii_digit, is_ascii_alphabetic}
use Rattle.std.specs.List.{prefix_len, list_all}
use Rattle.std.specs.Str.Parse.{digits_value}
use Rattle.unicode_ident.specs.Ident.{is_xid_continue}
use Rattle.unicode_ident.proofs.IdentLemmas.{is_xid_start-ascii, is_xid_continue-ascii, is_xid_start-is_xid_continue}
use Rattle.ag_tokens.specs.declared.token.Punctuation.{Punctuation}
use Rattle.ag_tokens.specs.declared.token.Punctuation.TheVariants as punctuation
use Rattle.ag_tokens.specs.GrammarToken.{GrammarToken}
use Rattle.ag_tokens.specs.GrammarToken as token
use Rattle.ag_tokens.specs.Laws.{LongestIsCut, NothingIsCut}
use Rattle.ag_tokens.specs.Tokens.{starts_name, is_separator, escaped, IsDigits, IsName, IsBody, empty, plain, escape}
use Rattle.ag_tokens.specs.Tokens.{punctuation_text, IsToken}
use Rattle.ag_tokens.specs.Lexing.{digits_from, name_from, single_punctuation, double_mark, punctuation_from, escape_from}
use Rattle.ag_tokens.specs.Lexing.{character_from, after_quote, after_dot, text_from, occurrence_from, plain_from, token_from}
use Rattle.ag_tokens.proofs.Prefixes.{prefix_passes, prefix_reaches, prefix_ends, take_more, drop_more}

-- ---- the characters that start a name

pub no_start : (k : ℕ) → k < 128 → is_ascii_alphabetic k ≡ false → (k == 95) ≡ false → starts_name k ≡ false
no_start k small letter line = rw (is_xid_start-ascii k small, letter, line)

-- such a character is not a digit, a quote or a dollar sign
name_first : (c : ℕ) → starts_name c ≡ true → (is_ascii_digit c ≡ false) × ((c == 34) ≡ false) × ((c == 36) ≡ false)
name_first c starts = grind (arith, nat_tests, no_start)

goes_on : (c : ℕ) → starts_name c ≡ true → is_xid_continue c ≡ true
goes_on c starts = let line : is_xid_continue 95 ≡ true = is_xid_continue-ascii 95 (lit< tt) in
    grind (arith, nat_tests, is_xid_start-is_xid_continue, line)

-- ---- what the lexer reads is a token

digits_sound : (cs d rest : List ℕ) → digits_from cs ≡ Some (d, rest) → (cs ≡ d ++ rest) × IsDigits d
digits_sound cs d rest e = grind (arith, nat_tests, take-append-drop, prefix_passes, prefix_len-le-length, length-take-le)

name_sound : (cs n rest : List ℕ) → name_from cs ≡ Some (n, rest) → (cs ≡ n ++ rest) × IsName n
name_sound [] n rest e = cc
name_sound (c ∷ cs) n rest e =
    let starts : starts_name c ≡ true = grind arith in
    let same = some_pair_parts _ n _ rest (rw (starts, goes_on c starts, take_more, drop_more) at e) in
    rw (← same.0, ← same.1)
    (ap (λ x. c ∷ x) (sym (take-append-drop (prefix_len is_xid_continue cs) cs)), (starts, prefix_passes is_xid_continue cs))

module _ (t : GrammarToken) (rest : List ℕ) where
  -- the characters `cs` are the rest of a text literal and its closing quote, followed by `rest`; `prefix` are the bytes that the
  -- part read before denotes, and t is the whole token
  abbrev IsTextOf : List ℕ → List ℕ → Type 0
  IsTextOf prefix cs =
      (body : List ℕ) × (bytes : List ℕ) × (cs ≡ body ++ 34 ∷ rest) × IsBody body bytes × (t ≡ token.Text (prefix ++ bytes))

  text_ends : (prefix cs : List ℕ)
      → option_and_then {U = GrammarToken × List ℕ} (λ us. Some (token.Text prefix, us)) (after_quote cs) ≡ Some (t, rest)
      → IsTextOf prefix cs
  text_ends prefix [] e = cc
  text_ends prefix (c ∷ cs) e = let same : (c ≡ 34) × (cs ≡ rest) × (t ≡ token.Text prefix) = grind (arith, nat_tests) in
      ([], [], cc, empty, cc (append-nil prefix))

  text_escape : (prefix cs us : List ℕ) (d : ℕ) → escape_from cs ≡ Some (d, us) → IsTextOf (prefix ++ encode_utf8 d) us
      → IsTextOf prefix (92 ∷ cs)
  text_escape prefix [] us d e more = cc
  text_escape prefix (c ∷ cs) us d e (body, bytes, split, is, same) =
      let of : (escaped c ≡ Some d) × (cs ≡ us) = grind arith in
      (92 ∷ c ∷ body, encode_utf8 d ++ bytes, cc, escape c d body bytes of.0 is, cc (append_assoc prefix (encode_utf8 d) bytes))

  text_step : (prefix cs us : List ℕ) (d : ℕ) → character_from cs ≡ Some (d, us) → IsTextOf (prefix ++ encode_utf8 d) us
      → IsTextOf prefix cs
  text_step prefix [] us d e more = cc
  text_step prefix (c ∷ cs) us d e more = elim (cases_eq c 92) [
    | inl same ↦ rw same (text_escape prefix cs us d (rw same at e) more)
    | inr other ↦
        let same : (c ≡ d) × (cs ≡ us) × (c ≢ 34) = grind (arith, nat_tests) in (
          c ∷ more.0,
          encode_utf8 c ++ more.1,
          cc,
          plain c more.0 more.1 same.2 other more.3,
          cc (append_assoc prefix (encode_utf8 d) more.1),
        )
  ]

  text_sound : (n : ℕ) (prefix cs : List ℕ) → text_from n prefix cs ≡ Some (t, rest) → IsTextOf prefix cs
  unfolding text_from
  text_sound zero prefix cs e = cc
  text_sound (suc n) prefix cs e = elim (none_or_some (character_from cs)) [
    | inl none ↦ text_ends prefix cs (rw none at e)
    | inr (x, is) ↦ text_step prefix cs x.1 x.0 is (text_sound n (prefix ++ encode_utf8 x.0) x.1 (rw is at e))
  ]

single_sound : (c : ℕ) (s : Punctuation) → single_punctuation c ≡ Some s → c ∷ [] ≡ punctuation_text s
single_sound c s e = grind (arith, nat_tests)

doubled_sound : (k : ℕ) (two one : Punctuation) → punctuation_text two ≡ k ∷ k ∷ [] → punctuation_text one ≡ k ∷ []
    → (cs : List ℕ) → k ∷ cs ≡ punctuation_text (double_mark k two one cs).0 ++ (double_mark k two one cs).1
doubled_sound k two one p q [] = rw q
doubled_sound k two one p q (c ∷ cs) = grind (arith, nat_tests)

punctuation_sound : (cs : List ℕ) (s : Punctuation) (rest : List ℕ) → punctuation_from cs ≡ Some (s, rest)
    → cs ≡ punctuation_text s ++ rest
punctuation_sound [] s rest e = cc
punctuation_sound (c ∷ cs) s rest e = grind (arith, nat_tests, single_sound, doubled_sound)

-- a token was read from the beginning of the characters
abbrev IsCut : List ℕ → GrammarToken → List ℕ → Type 0
IsCut cs t rest = (word : List ℕ) × (cs ≡ word ++ rest) × IsToken word t

is_cut : {cs : List ℕ} {t u : GrammarToken} {rest us : List ℕ} (word : List ℕ)
    → ◌≡◌ {A = Option (GrammarToken × List ℕ)} (Some (u, us)) (Some (t, rest)) → cs ≡ word ++ us → IsToken word u
    → IsCut cs t rest
is_cut word same split is = let parts = some_pair_parts _ _ _ _ same in rw (← parts.0, ← parts.1) (word, split, is)

occurrence_sound : (cs : List ℕ) (t : GrammarToken) (rest : List ℕ) → occurrence_from cs ≡ Some (t, rest) → IsCut (36 ∷ cs) t rest
occurrence_sound cs t rest e =
    option_and_then_some _ (digits_from cs) _ e (λ d is_d after.
    option_and_then_some _ (after_dot d.1) _ after (λ us is_dot after'.
    option_and_then_some _ (name_from us) _ after' (λ n is_n same.
    let digits = digits_sound cs d.0 d.1 is_d in
    let dot : d.1 ≡ 46 ∷ us = grind (arith, nat_tests) in
    let name = name_sound us n.0 n.1 is_n in
    is_cut (36 ∷ (d.0 ++ 46 ∷ n.0)) same (cc (append_assoc d.0 (46 ∷ n.0) n.1))
    (d.0, n.0, refl, digits.1, name.1, refl, refl))))

plain_sound : (cs : List ℕ) (t : GrammarToken) (rest : List ℕ) → plain_from cs ≡ Some (t, rest) → IsCut cs t rest
plain_sound cs t rest e = by (digits_from cs) (name_from cs) (punctuation_from cs) refl refl refl
  where
    by : (d n : Option (List ℕ × List ℕ)) (s : Option (Punctuation × List ℕ)) → digits_from cs ≡ d → name_from cs ≡ n
        → punctuation_from cs ≡ s → IsCut cs t rest
    by (Some d) n s is_d is_n is_s = let digits = digits_sound cs d.0 d.1 is_d in
        is_cut d.0 (rw is_d at e) digits.0 (digits.1, refl)
    by None (Some n) s is_d is_n is_s = let name = name_sound cs n.0 n.1 is_n in
        is_cut n.0 (rw (is_d, is_n) at e) name.0 (name.1, refl)
    by None None (Some s) is_d is_n is_s =
        is_cut (punctuation_text s.0) (rw (is_d, is_n, is_s) at e) (punctuation_sound cs s.0 s.1 is_s) refl
    by None None None is_d is_n is_s = absurd (none-some _ (rw (is_d, is_n, is_s) at e))

pub token_sound : (cs : List ℕ) {t : GrammarToken} {rest : List ℕ} → token_from cs ≡ Some (t, rest) → IsCut cs t rest
unfolding token_from
token_sound [] e = cc
token_sound (c ∷ cs) {t} {rest} e = elim (cases_eq c 34) [
  | inl quote ↦
      let (body, bytes, split, is, same) = text_sound t rest (length cs) [] cs (rw quote at e) in
      rw (quote, same) (34 ∷ (body ++ 34 ∷ []), cc (append_assoc body (34 ∷ []) rest), (body, refl, is))
  | inr other ↦ elim (cases_eq c 36) [
    | inl dollar ↦ rw dollar (occurrence_sound cs t rest (rw dollar at e))
    | inr different ↦ plain_sound (c ∷ cs) t rest (rw (ne_eqb c 34 other, ne_eqb c 36 different) at e)
  ]
]

-- ---- if characters begin with a token, the lexer reads one that is at least as long; if it is as long, it
-- is that token

-- the lexer reads at least the word before `more`; if it reads exactly this word, the result has the value `a`
pub record Reaches {A : Type 0} (a : A) (more : List ℕ) (found : Option (A × List ℕ)) : Type 0 where
  pub value : A
  pub left : List ℕ
  pub is : found ≡ Some (value, left)
  pub far : length left ≤ length more
  pub same : length left ≡ length more → value ≡ a

prefix_reach : (p : ℕ → Bool) (word more : List ℕ) → list_all p word ≡ true
    → Reaches word more
    (Some (take (prefix_len p (word ++ more)) (word ++ more), drop (prefix_len p (word ++ more)) (word ++ more)))
prefix_reach p word more all =
    let reaches = prefix_reaches p word more all in
    let within = prefix_len-le-length p (word ++ more) in
    record {
      value = _;
      left = _;
      is = refl;
      far = omega (arith, length-drop {A = ℕ}, length-append word more);
      same = λ ends.
          let k : prefix_len p (word ++ more) ≡ length word = omega (arith, length-drop {A = ℕ}, length-append word more) in
          rw k (take-append_seam word more);
    }

digits_reach : (word more : List ℕ) → IsDigits word → Reaches word more (digits_from (word ++ more))
digits_reach word more (some, all) =
    let far = prefix_reaches is_ascii_digit word more all in
    let some' : (prefix_len is_ascii_digit (word ++ more) == 0) ≡ false = grind (arith, nat_tests) in
    rw some' (prefix_reach is_ascii_digit word more all)

name_reach : (word more : List ℕ) → IsName word → Reaches word more (name_from (word ++ more))
name_reach [] more is = absurd is
name_reach (c ∷ word) more (starts, all) =
    rw starts (prefix_reach is_xid_continue (c ∷ word) more (rw (goes_on c starts, all)))

text_reach : (body bytes : List ℕ) → IsBody body bytes → (n : ℕ) (prefix more : List ℕ) → length body < n
    → text_from n prefix (body ++ 34 ∷ more) ≡ Some (token.Text (prefix ++ bytes), more)
unfolding text_from
text_reach _ _ empty (suc n) prefix more lt = rw append-nil
text_reach _ _ (plain c body bytes a b is) (suc n) prefix more lt =
    rw (
      ne_eqb c 34 a,
      ne_eqb c 92 b,
      text_reach body bytes is n (prefix ++ encode_utf8 c) more (omega arith),
      append_assoc prefix (encode_utf8 c) bytes,
    )
text_reach _ _ (escape c d body bytes a is) (suc n) prefix more lt =
    rw (a, text_reach body bytes is n (prefix ++ encode_utf8 d) more (omega arith), append_assoc prefix (encode_utf8 d) bytes)
text_reach _ _ _ zero prefix more lt = absurd (omega arith)

-- `Reaches` for a result that has the value `f x` in place of the value x
reach_as : {A B : Type 0} (f : A → B) {a : A} {more : List ℕ} {found : Option (A × List ℕ)} {made : Option (B × List ℕ)}
    (x : Reaches a more found) → made ≡ Some (f x.value, x.left) → Reaches (f a) more made
reach_as f x is = record { value = f x.value; left = x.left; is = is; far = x.far; same = λ ends. ap f (x.same ends) }

number_reached : (word more : List ℕ) → IsDigits word
    → Reaches (token.Number (pos (digits_value 10 word))) more (token_from (word ++ more))
unfolding token_from
number_reached [] more is = absurd (omega arith)
number_reached (c ∷ word) more is =
    let other : ((c == 34) ≡ false) × ((c == 36) ≡ false) = grind (arith, nat_tests) in
    let found = digits_reach (c ∷ word) more is in
    reach_as (λ w. token.Number (pos (digits_value 10 w))) found (rw (other.0, other.1, found.is))

name_reached : (word more : List ℕ) → IsName word → Reaches (token.Name (encode_utf8_all word)) more (token_from (word ++ more))
unfolding token_from
name_reached [] more is = absurd is
name_reached (c ∷ word) more is =
    let other = name_first c is.0 in
    let found = name_reach (c ∷ word) more is in
    reach_as (λ w. token.Name (encode_utf8_all w)) found (rw (other.1, other.2, other.0, found.is))

text_reached : (body bytes more : List ℕ) → IsBody body bytes
    → Reaches (token.Text bytes) more (token_from (34 ∷ ((body ++ 34 ∷ []) ++ more)))
unfolding token_from
text_reached body bytes more is = record {
  value = token.Text bytes;
  left = more;
  is =
      rw (append_assoc body (34 ∷ []) more)
      (text_reach body bytes is (length (body ++ 34 ∷ more)) [] more (omega (arith, length-append body (34 ∷ more))));
  far = omega arith;
  same = λ ends. refl;
}

occurrence_reached : (digits name more : List ℕ) → IsDigits digits → IsName name
    → Reaches (token.Occurrence (digits_value 10 digits) (encode_utf8_all name)) more
    (token_from (36 ∷ ((digits ++ 46 ∷ name) ++ more)))
unfolding token_from
occurrence_reached digits name more is called =
    let after = 46 ∷ (name ++ more) in
    let ends = prefix_ends is_ascii_digit digits (name ++ more) 46 is.1 refl in
    let some' : (length digits == 0) ≡ false = grind (arith, nat_tests) in
    let cut : digits_from (digits ++ after) ≡ Some (digits, after) =
    rw (ends, some', take-append_seam digits after, drop-append_seam digits after) in
    let found = name_reach name more called in
    reach_as (λ w. token.Occurrence (digits_value 10 digits) (encode_utf8_all w)) found
    (rw (append_assoc digits (46 ∷ name) more, cut, found.is))

-- the punctuation that the lexer reads at a mark before `more`: the mark, or its doubled form
abbrev mark_cut : Punctuation → List ℕ → Punctuation × List ℕ
mark_cut punctuation.Plus more = double_mark 43 punctuation.Join punctuation.Plus more
mark_cut punctuation.Equal more = double_mark 61 punctuation.EqualEqual punctuation.Equal more
mark_cut s more = (s, more)

punctuation_reached : (s : Punctuation) (more : List ℕ)
    → Reaches (token.Punctuation s) more (token_from (punctuation_text s ++ more))
unfolding token_from
punctuation_reached s more =
    record {
      value = token.Punctuation (mark_cut s more).0;
      left = (mark_cut s more).1;
      is = grind (arith, nat_tests, no_start);
      far = grind arith;
      same = grind arith;
    }

pub token_reached : (word more : List ℕ) (t : GrammarToken) → IsToken word t → Reaches t more (token_from (word ++ more))
token_reached word more (token.Number n) is = rw is.1 (number_reached word more is.0)
token_reached word more (token.Text bytes) is = rw is.1 (text_reached is.0 bytes more is.2)
token_reached word more (token.Name bytes) is = rw is.1 (name_reached word more is.0)
token_reached word more (token.Occurrence place attr) is = rw (is.2, is.5, is.6) (occurrence_reached is.0 is.1 more is.3 is.4)
token_reached word more (token.Punctuation s) is = rw is (punctuation_reached s more)

-- ---- the lexer reads the longest token, and if it reads none, no token begins there

pub longest_is_cut : LongestIsCut
longest_is_cut cs rest t e = let cut = token_sound cs e in (
  cut.0,
  cut.1,
  cut.2,
  λ longer more u same is.
      let found = token_reached longer more u is in
      let equal = some_pair_parts t found.value rest found.left (cc) in
      omega (arith, ap length equal.1, ap length same, length-append cut.0 rest, length-append longer more),
)

pub nothing_is_cut : NothingIsCut
nothing_is_cut cs e word more t split is = let found = token_reached word more t is in cc

-- ---- no token begins with a separator

-- the word begins with a character that is not a separator
abbrev pub IsPlainWord : List ℕ → Type 0
IsPlainWord [] = ⊥
IsPlainWord (c ∷ cs) = is_separator c ≡ false

pub begins_plain : (word : List ℕ) (t : GrammarToken) → IsToken word t → IsPlainWord word
begins_plain word (token.Number n) is = grind (arith, nat_tests)
begins_plain word (token.Text bytes) is = rw is.1
begins_plain word (token.Name bytes) is = grind (arith, nat_tests, no_start)
begins_plain word (token.Occurrence place attr) is = rw is.2
begins_plain word (token.Punctuation s) is = grind arith

pub word_some : (word : List ℕ) (t : GrammarToken) → IsToken word t → 0 < length word
word_some word t is = let plain = begins_plain word t is in grind arith

-- ---- by the first character

pub marked_token : (c : ℕ) (cs : List ℕ) (s : Punctuation) (rest : List ℕ) → is_ascii_digit c ≡ false → starts_name c ≡ false
    → punctuation_from (c ∷ cs) ≡ Some (s, rest) → token_from (c ∷ cs) ≡ Some (token.Punctuation s, rest)
unfolding token_from
marked_token c cs s rest digit name mark =
    let other : ((c == 34) ≡ false) × ((c == 36) ≡ false) = grind (arith, nat_tests) in
    rw (other.0, other.1, digit, name, mark)
