-- The longest literal at the beginning of a text, in bytes and in characters.
use Rattle.std.proofs.Common.{◌≡◌, ℕ, List, ◌++◌, length, take, drop, IsUtf8, chars, encode_utf8_all, refl, ap, sym, ◌∙◌, arith}
use Rattle.std.proofs.lemmas.Str.{chars-append, encodes-chars, encodes-append, IsCharBoundary-from_take}
use Rattle.std.proofs.Math.Seq.{drop-append_seam, take-append_seam}
use Rattle.std.specs.Str.{IsCharBoundary}
use Rattle.ag_grammar.specs.declared.grammar.Terminal.TheVariants.{Literal}
use Rattle.ag_tokens.proofs.Lexed.{width-encoded}
use Rattle.ag_scan.specs.declared.literals.LiteralEntry.{LiteralEntry}
use Rattle.ag_scan.specs.Cutting.{IsLeadingLiteral}
use Rattle.ag_scan.specs.Table.{IsPrefix, IsLongestPrefix, HasNoPrefix}
use Rattle.ag_scan.specs.Words.{IsLiteral, BeginsNone}
use Rattle.ag_scan.proofs.words.Choosing.{no_longer}
use Rattle.ag_scan.proofs.words.Tables.{prefix_fits}

-- a text that is a prefix of another ends at a character boundary
pub boundary : (text word : List ℕ) → IsUtf8 text → IsUtf8 word → IsPrefix word text → IsCharBoundary text (length word)
boundary text word utf8 utf8' prefix =
    let taken : take (length word) text ≡ word = cc (prefix.1, take-append_seam word prefix.0) in
    IsCharBoundary-from_take text (length word) utf8 (prefix_fits word text prefix) (rw taken utf8')

pub split_characters : (text word rest : List ℕ) → IsUtf8 word → IsPrefix word text → rest ≡ drop (length word) text
    → chars text ≡ chars word ++ chars rest
split_characters text word rest utf8 (following, split) e =
    cc (drop-append_seam word following, chars-append word following utf8)

-- a prefix of the characters is a prefix of the bytes
bytes_prefix : (text word more : List ℕ) → IsUtf8 text → chars text ≡ word ++ more → IsPrefix (encode_utf8_all word) text
bytes_prefix text word more utf8 split =
    (encode_utf8_all more, cc (encodes-chars text utf8, encodes-append word more))

pub literal_none : (literals : List (List ℕ)) (text : List ℕ) → IsUtf8 text → HasNoPrefix literals text
    → BeginsNone (IsLiteral literals) (chars text)
literal_none literals text utf8 none word more split (l, e) =
    none l (encode_utf8_all word) e (bytes_prefix text word more utf8 split)

pub literal_cut : (literals : List (List ℕ)) (text lex rest : List ℕ) (w : LiteralEntry) → IsUtf8 text
    → IsLongestPrefix literals text w → lex ≡ w.text.now → chars text ≡ chars w.text.now ++ chars rest
    → encode_utf8_all (chars w.text.now) ≡ w.text.now
    → IsLeadingLiteral literals (chars text) (record { kind = Literal w.number; lex = lex; rest = chars rest })
literal_cut literals text lex rest w utf8 is same split encoded = record {
  number = w.number;
  word = chars w.text.now;
  kind = refl;
  split = split;
  there = cc;
  text = cc;
  longest = λ longer more e there.
      let less = is.longest there.0 (encode_utf8_all longer) there.1 (bytes_prefix text longer more utf8 (split ∙ e)) in
      no_longer longer (chars w.text.now) more (chars rest) (sym e)
      (omega (arith, width-encoded (chars w.text.now), ap length encoded, width-encoded longer));
}
