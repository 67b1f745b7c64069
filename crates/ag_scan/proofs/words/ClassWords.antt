-- The function that reads the word of a class agrees with the definition of words.
use Rattle.std.proofs.Common.{◌≡◌, ℕ, zero, suc, ◌≤◌, Bool, true, false, cond, ◌==◌, List, [], ◌∷◌, ◌++◌, length, Option, Some}
use Rattle.std.proofs.Common.{None, slice_get, encode_utf8_all, refl, ap, sym, lit<, arith, append_assoc}
use Rattle.std.proofs.lemmas.Bool.Decides.{nat_tests}
use Rattle.std.proofs.lemmas.List.{length-append, length-drop, take-append-drop}
use Rattle.std.proofs.lemmas.List.Sums.{prefix_len-le-length}
use Rattle.std.proofs.lemmas.Option.{none-some, same_Some}
use Rattle.std.proofs.Math.Seq.{drop-append_seam, take-append_seam}
use Rattle.std.specs.Char.{is_ascii_digit}
use Rattle.std.specs.List.{prefix_len, list_all}
use Rattle.unicode_ident.specs.Ident.{is_xid_continue}
use Rattle.unicode_ident.proofs.IdentLemmas.{is_xid_continue-ascii, is_xid_start-is_xid_continue}
use Rattle.ag_grammar.specs.Lists.{Has}
use Rattle.ag_grammar.specs.declared.grammar.Terminal.TheVariants.{Class}
use Rattle.ag_tokens.specs.Tokens.{is_quotable, starts_name, IsName, IsDigits}
use Rattle.ag_tokens.proofs.Prefixes.{prefix_passes, prefix_reaches, prefix_ends}
use Rattle.ag_tokens.proofs.TokenLaws.{no_start}
use Rattle.ag_scan.specs.Words.{IsWordOfClass, IsClassWord, IsLongest, BeginsNone}
use Rattle.ag_scan.specs.Cutting.{LeadingWord, prefix_in, rest_after, span_from, close_quote, text_from, uses, class_from}

-- The word is the longest word of a class at the beginning of the characters.
pub record IsLeadingClassWord (classes cs : List ℕ) (f : LeadingWord) : Type 0 where
  pub class : ℕ
  pub word : List ℕ
  pub kind : f.kind ≡ Class class
  pub split : cs ≡ word ++ f.rest
  pub used : Has classes class
  pub is : IsWordOfClass class word f.lex
  pub longest : IsLongest (IsClassWord classes) word f.rest

-- ---- the first characters of words

digit_no_name : (c : ℕ) → is_ascii_digit c ≡ true → starts_name c ≡ false
digit_no_name c digit = grind (arith, nat_tests, no_start)

name_goes_on : (c : ℕ) → starts_name c ≡ true → is_xid_continue c ≡ true
name_goes_on c starts = let line : is_xid_continue 95 ≡ true = is_xid_continue-ascii 95 (lit< tt) in
    grind (arith, nat_tests, is_xid_start-is_xid_continue, line)

-- ---- the classes in use

used_has : (classes : List ℕ) (k : ℕ) → uses classes k ≡ true → Has classes k
used_has [] k h = absurd (cc)
used_has (c ∷ classes) k h = go (c == k) refl (used_has classes k)
  where
    go : (b : Bool) → (c == k) ≡ b → (uses classes k ≡ true → Has classes k) → Has (c ∷ classes) k
    go true e more = (0, grind (arith, nat_tests))
    go false e more = let found = more (grind arith) in (suc found.0, found.1)

has_used : (classes : List ℕ) (k i : ℕ) → slice_get classes i ≡ Some k → uses classes k ≡ true
has_used [] k i e = absurd (cc)
has_used (c ∷ classes) k zero e = grind (arith, nat_tests)
has_used (c ∷ classes) k (suc i) e = let more = has_used classes k i e in grind arith

-- ---- if a word of a class begins there, the function reads one that is at least as long

-- the function reads at least the word before `more`; if it reads exactly this word, the result is that word
record Reached (classes : List ℕ) (class : ℕ) (lex cs more : List ℕ) : Type 0 where
  pub cut : LeadingWord
  pub is : class_from classes cs ≡ Some cut
  pub far : length cut.rest ≤ length more
  pub same : length cut.rest ≡ length more → (cut.kind ≡ Class class) × (cut.lex ≡ lex)

module _ (classes more : List ℕ) where
  span_reached : (p : ℕ → Bool) (class : ℕ) (word : List ℕ) → list_all p word ≡ true
      → class_from classes (word ++ more) ≡ Some (span_from p class (word ++ more))
      → Reached classes class (encode_utf8_all word) (word ++ more) more
  span_reached p class word all is =
      let following = prefix_reaches p word more all in
      let within = prefix_len-le-length p (word ++ more) in
      record {
        cut = span_from p class (word ++ more);
        is = is;
        far = omega (arith, length-drop {A = ℕ}, length-append word more);
        same =
            λ ends. (
              refl,
              let k : prefix_len p (word ++ more) ≡ length word =
                  omega (arith, length-drop {A = ℕ}, length-append word more) in rw (k, take-append_seam word more) refl,
            );
      }

  name_reached : (word : List ℕ) → Has classes 0 → IsName word → Reached classes 0 (encode_utf8_all word) (word ++ more) more
  unfolding class_from
  name_reached [] used is = absurd is
  name_reached (c ∷ word) (i, used) (starts, all) =
      span_reached is_xid_continue 0 (c ∷ word) (rw (name_goes_on c starts) all) (rw (starts, has_used classes 0 i used) refl)

  number_reached : (word : List ℕ) → Has classes 1 → IsDigits word → Reached classes 1 (encode_utf8_all word) (word ++ more) more
  unfolding class_from
  number_reached [] used is = absurd (omega (arith, is.0))
  number_reached (c ∷ word) (i, used) (some, all) =
      let digit : is_ascii_digit c ≡ true = grind arith in
      span_reached is_ascii_digit 1 (c ∷ word) all (rw (digit_no_name c digit, digit, has_used classes 1 i used) refl)

  text_reached : (body : List ℕ) → Has classes 2 → list_all is_quotable body ≡ true
      → Reached classes 2 (encode_utf8_all body) ((34 ∷ (body ++ 34 ∷ [])) ++ more) more
  unfolding class_from
  text_reached body (i, used) all = record {
    cut = record { kind = Class 2; lex = encode_utf8_all body; rest = more };
    is =
        rw (
          append_assoc body (34 ∷ []) more,
          no_start 34 (lit< tt) refl refl,
          has_used classes 2 i used,
          prefix_ends is_quotable body more 34 all refl,
          take-append_seam body (34 ∷ more),
          drop-append_seam body (34 ∷ more),
        ) refl;
    far = omega arith;
    same = λ ends. (refl, refl);
  }

  word_reached : (word lex : List ℕ) (class : ℕ) → Has classes class → IsWordOfClass class word lex
      → Reached classes class lex (word ++ more) more
  word_reached word lex zero used is = rw is.1 (name_reached word used is.0)
  word_reached word lex (suc zero) used is = rw is.1 (number_reached word used is.0)
  word_reached word lex (suc (suc zero)) used (body, split, all, text) = rw (split, text) (text_reached body used all)
  word_reached word lex (suc (suc (suc class))) used is = absurd is

-- characters are a word of at most one class, with one text
pub one_class : (classes word lex lex' : List ℕ) (c d : ℕ) → Has classes c → Has classes d → IsWordOfClass c word lex
    → IsWordOfClass d word lex' → (Class c ≡ Class d) × (lex ≡ lex')
one_class classes word lex lex' c d used used' is is' =
    let a = word_reached classes [] word lex c used is in
    let b = word_reached classes [] word lex' d used' is' in
    let both : a.cut ≡ b.cut = cc in
    let (kind, text) = a.same (omega (arith, a.far)) in
    let (kind', text') = b.same (omega (arith, b.far)) in
    (cc, cc)

-- ---- what the function reads is a word

-- the characters begin with a word of a class, with this kind and text
abbrev IsThere : List ℕ → List ℕ → LeadingWord → Type 0
IsThere classes cs f =
    (class : ℕ) × (word : List ℕ) × (f.kind ≡ Class class) × (cs ≡ word ++ f.rest) × Has classes class
    × IsWordOfClass class word f.lex

name_prefix : (c : ℕ) (cs : List ℕ) → starts_name c ≡ true → IsName (prefix_in is_xid_continue (c ∷ cs))
name_prefix c cs starts = let k : prefix_len is_xid_continue (c ∷ cs) ≡ suc (prefix_len is_xid_continue cs) =
    rw (name_goes_on c starts) (omega arith) in rw k (starts, prefix_passes is_xid_continue cs)

number_prefix : (c : ℕ) (cs : List ℕ) → is_ascii_digit c ≡ true → IsDigits (prefix_in is_ascii_digit (c ∷ cs))
number_prefix c cs digit = let k : prefix_len is_ascii_digit (c ∷ cs) ≡ suc (prefix_len is_ascii_digit cs) =
    rw digit (omega arith) in (rw k (omega arith), prefix_passes is_ascii_digit (c ∷ cs))

module _ (classes : List ℕ) {f : LeadingWord} where
  where_used : (k : ℕ) (o : Option LeadingWord) → cond (uses classes k) o None ≡ Some f → Has classes k × (o ≡ Some f)
  where_used k o e = (used_has classes k (grind arith), grind arith)

  span_there : (p : ℕ → Bool) (class : ℕ) (cs : List ℕ) → Has classes class
      → IsWordOfClass class (prefix_in p cs) (encode_utf8_all (prefix_in p cs)) → Some (span_from p class cs) ≡ Some f
      → IsThere classes cs f
  span_there p class cs used is e =
      rw (← same_Some _ _ e) (class, prefix_in p cs, refl, sym (take-append-drop (prefix_len p cs) cs), used, is)

  closed_there : (prefix back : List ℕ) → Has classes 2 → list_all is_quotable prefix ≡ true
      → close_quote (encode_utf8_all prefix) back ≡ Some f → IsThere classes (34 ∷ (prefix ++ back)) f
  closed_there prefix [] used all e = absurd (none-some _ e)
  closed_there prefix (c ∷ back) used all e =
      let same : (c ≡ 34) × (record { kind = Class 2; lex = encode_utf8_all prefix; rest = back } ≡ f) =
      grind (arith, nat_tests) in
      rw (same.0, ← same.1) (
        2,
        34 ∷ (prefix ++ 34 ∷ []),
        refl,
        cc (append_assoc prefix (34 ∷ []) back),
        used,
        (prefix, refl, all, refl),
      )

  text_is_there : (cs : List ℕ) → Has classes 2 → text_from cs ≡ Some f → IsThere classes (34 ∷ cs) f
  text_is_there cs used e =
      rw (take-append-drop (prefix_len is_quotable cs) cs) at
      (closed_there (prefix_in is_quotable cs) (rest_after is_quotable cs) used (prefix_passes is_quotable cs) e)

  cut_is_there : (cs : List ℕ) → class_from classes cs ≡ Some f → IsThere classes cs f
  unfolding class_from
  cut_is_there [] e = absurd (none-some _ e)
  cut_is_there (c ∷ cs) e = go (starts_name c) (is_ascii_digit c) (c == 34) refl refl refl e
    where
      go : (a b d : Bool) → starts_name c ≡ a → is_ascii_digit c ≡ b → (c == 34) ≡ d → class_from classes (c ∷ cs) ≡ Some f
          → IsThere classes (c ∷ cs) f
      go true b d p q r e = let used = where_used 0 _ (grind arith) in
          span_there is_xid_continue 0 (c ∷ cs) used.0 (name_prefix c cs p, refl) used.1
      go false true d p q r e = let used = where_used 1 _ (grind arith) in
          span_there is_ascii_digit 1 (c ∷ cs) used.0 (number_prefix c cs q, refl) used.1
      go false false true p q r e = let used = where_used 2 _ (grind arith) in
          let same : c ≡ 34 = grind (arith, nat_tests) in rw same (text_is_there cs used.0 used.1)
      go false false false p q r e = absurd (grind arith)

-- ---- both together

pub class_cut : (classes cs : List ℕ) (f : LeadingWord) → class_from classes cs ≡ Some f → IsLeadingClassWord classes cs f
class_cut classes cs f e =
    let (class, word, kind, split, used, is) = cut_is_there classes cs e in
    record {
      class = class;
      word = word;
      kind = kind;
      split = split;
      used = used;
      is = is;
      longest =
          λ longer more same other.
          let (c, lex, used, is) = other in
          let far = word_reached classes more longer lex c used is in
          let rest : length far.cut.rest ≡ length f.rest = cc in
          omega (arith, far.far, ap length same, length-append word f.rest, length-append longer more);
    }

pub class_none : (classes cs : List ℕ) → class_from classes cs ≡ None → BeginsNone (IsClassWord classes) cs
class_none classes cs e word more split (c, lex, used, is) = let far = word_reached classes more word lex c used is in cc
