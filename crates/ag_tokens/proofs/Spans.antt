-- The longest prefix whose characters pass a test, and the loop that reads it.
use Rattle.ag_tokens.proofs.Prefixes.{prefix_is, drop_more}
use Rattle.std.proofs.Common.{◌≡◌, ℕ, ◌-◌, ◌<◌, Bool, true, List, [], ◌∷◌, ◌++◌, length, take, drop, Bor, Some, chars, IsUtf8, ap}
use Rattle.std.proofs.Common.{encode_utf8, encode_utf8_all, arith, append_assoc, append-nil, length-append}
use Rattle.std.specs.List.{prefix_len, list_all}
use Rattle.std.specs.Str.{IsCharBoundary}
use Rattle.std.proofs.Math.Seq.{take-append_seam, drop-append_seam}
use Rattle.std.proofs.lemmas.List.Folds.{list_all-append}
use Rattle.std.proofs.lemmas.Str.{encodes-append, length-encode, len_utf8_bounds, chars-nil, IsCharBoundary-at_seam}
use Rattle.ag_tokens.specs.declared.lexer.Class.{Class}
use Rattle.ag_tokens.specs.declared.lexer.Class.TheVariants as class
use Rattle.ag_tokens.specs.Lexing.{is_in, prefix_in, rest_in, IsAfterOne}
use Rattle.ag_tokens.specs.Remaining.{after_separators}

-- The characters of `prefix` pass, and `rest` is the text after them.
pub record Passed (p : ℕ → Bool) (text rest : List ℕ) : Type 0 where
  pub prefix : List ℕ
  pub all : list_all p prefix ≡ true
  pub split : text ≡ encode_utf8_all prefix ++ rest
  pub characters : chars text ≡ prefix ++ chars rest

pub goes_on : (class : Class) {text rest : List ℕ} (after : Bor (List ℕ)) → IsAfterOne class rest (Some after)
    → Passed (is_in class) text rest → Passed (is_in class) text after.now
goes_on class after (c, passes, characters, split) so_far = record {
  prefix = so_far.prefix ++ c ∷ [];
  all = rw (list_all-append, so_far.all, passes);
  split =
      cc (
        append_assoc (encode_utf8_all so_far.prefix) (encode_utf8 c) after.now,
        encodes-append so_far.prefix (c ∷ []),
        append-nil (encode_utf8 c),
      );
  characters = cc (append_assoc so_far.prefix (c ∷ []) (chars after.now));
}

pub nearer : (class : Class) (rest : List ℕ) (after : Bor (List ℕ)) → IsAfterOne class rest (Some after)
    → length after.now < length rest
nearer class rest after (c, passes, characters, split) =
    omega (arith, len_utf8_bounds c, ap length split, length-append (encode_utf8 c) after.now, length-encode c)

-- a text is split after the characters of `prefix`
module _ (text rest prefix : List ℕ) (split : text ≡ encode_utf8_all prefix ++ rest) where
  cut_at : length text - length rest ≡ length (encode_utf8_all prefix)
  cut_at = omega (arith, ap length split, length-append (encode_utf8_all prefix) rest)

  pub seam : IsUtf8 rest → IsCharBoundary text (length text - length rest)
  seam utf8 = rw cut_at (IsCharBoundary-at_seam text (encode_utf8_all prefix) rest split utf8)

  pub prefix_bytes : take (length text - length rest) text ≡ encode_utf8_all prefix
  prefix_bytes = cc (cut_at, take-append_seam (encode_utf8_all prefix) rest)

  back_bytes : drop (length text - length rest) text ≡ rest
  back_bytes = cc (cut_at, drop-append_seam (encode_utf8_all prefix) rest)

module _ (class : Class) {text rest : List ℕ} (so_far : Passed (is_in class) text rest) where
  pub boundary : IsUtf8 rest → IsCharBoundary text (length text - length rest)
  boundary = seam text rest so_far.prefix so_far.split

  module _ (none : prefix_len (is_in class) (chars rest) ≡ 0) where
    length_is : prefix_len (is_in class) (chars text) ≡ length so_far.prefix
    length_is = rw so_far.characters (prefix_is (is_in class) so_far.prefix (chars rest) so_far.all none)

    pub prefix_is_cut : take (length text - length rest) text ≡ encode_utf8_all (prefix_in class (chars text))
    prefix_is_cut =
        cc (prefix_bytes text rest so_far.prefix so_far.split, length_is, take-append_seam so_far.prefix (chars rest))

    pub back_cut : chars (drop (length text - length rest) text) ≡ rest_in class (chars text)
    back_cut = cc (back_bytes text rest so_far.prefix so_far.split, length_is, drop-append_seam so_far.prefix (chars rest))

pub empty_text : (text : List ℕ) → length text ≡ 0 → chars text ≡ []
empty_text [] e = chars-nil
empty_text (b ∷ text) e = absurd (omega arith)

-- separators that are skipped one at a time
pub skipped : (rest : List ℕ) (after : Bor (List ℕ)) → IsAfterOne class.Separator rest (Some after)
    → after_separators (chars after.now) ≡ after_separators (chars rest)
skipped rest after (c, passes, characters, split) = rw characters (grind (arith, drop_more))
