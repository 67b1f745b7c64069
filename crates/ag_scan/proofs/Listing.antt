-- Tokens one after the other, and the separators between them.
use Rattle.std.proofs.Common.{◌≡◌, ℕ, zero, suc, ◌+◌, ◌-◌, ◌<◌, ◌≤◌, Bool, true, false, List, [], ◌∷◌, length, Some, IsUtf8}
use Rattle.std.proofs.Common.{chars, refl, ap, sym, ◌∙◌, arith}
use Rattle.std.proofs.lemmas.Str.{is_utf8-from_IsUtf8, chars-nil, len_utf8_bounds}
use Rattle.std.proofs.lemmas.List.{length-append}
use Rattle.std.specs.List.{prefix_len}
use Rattle.ag_grammar.specs.declared.grammar.Terminal.{Terminal}
use Rattle.ag_grammar.specs.declared.grammar.Terminal.TheVariants.{Literal, Class}
use Rattle.ag_grammar.specs.grammars.Tree.{max_token_bytes}
use Rattle.ag_grammar.proofs.grammars.Members.{each_none, each_more}
use Rattle.ag_tokens.specs.Remaining.{BeginsNoSeparator, after_separators}
use Rattle.ag_tokens.specs.Tokens.{is_separator, width}
use Rattle.ag_tokens.proofs.Prefixes.{drop_more}
use Rattle.ag_tokens.proofs.Lexed.{width-append, width-chars, spaces, plain_after}
use Rattle.ag_scan.specs.Words.{Vocabulary, HasNoEmpty, IsAnyWord, IsClean, BeginsNone, IsWord}
use Rattle.ag_scan.specs.Cutting.{LeadingWord, IsLeadingToken}
use Rattle.ag_scan.specs.Tokens.{AreShort, AreTokens, ended, separator, word, IsReadable, AreTokensOf, IsRefused, IsStopped}
use Rattle.ag_scan.specs.Tokens.{IsTokenOf, FitAll, TakesToken, NoTokenAt, Token}
use Rattle.ag_scan.specs.declared.fault.ScanFault.{ScanFault}
use Rattle.ag_scan.specs.declared.fault.ScanFault.TheVariants as fault

-- ---- one token

-- a word has at least one character
pub word_some : (v : Vocabulary) (t : Terminal) (cs lex : List ℕ) → HasNoEmpty v.literals → IsWord v t cs lex → 0 < length cs
word_some v (Literal l) [] lex none is = absurd (omega (arith, none l [] is.0))
word_some v (Literal l) (c ∷ cs) lex none is = omega arith
word_some v (Class zero) cs lex none is = grind arith
word_some v (Class (suc zero)) cs lex none is = is.1.0.0
word_some v (Class (suc (suc zero))) cs lex none (used, (body, split, all, text)) = omega (arith, ap length split)
word_some v (Class (suc (suc (suc c)))) cs lex none is = absurd is.1

-- fewer characters are left after a token
pub fewer_left : {v : Vocabulary} {cs : List ℕ} {f : LeadingWord} → IsClean v → IsLeadingToken v cs f → length f.rest < length cs
fewer_left {v} {f = f} clean cut =
    omega (arith, word_some v f.kind cut.word f.lex clean.some cut.token.is, ap length cut.split, length-append cut.word f.rest)

-- a word that was read is a token
pub taken : {v : Vocabulary} {cs : List ℕ} {f : LeadingWord} (at : ℕ) → IsLeadingToken v cs f → IsUtf8 f.lex
    → length f.lex ≤ max_token_bytes → TakesToken v cs at (record { kind = f.kind; lex = f.lex; at = at }) f.rest
taken {v} {f = f} at cut utf8 short =
    record { word = cut.word; split = cut.split; token = cut.token; offset = refl; short = short; fits = by f.kind cut.token.is }
  where
    by : (t : Terminal) → IsWord v t cut.word f.lex → IsTokenOf v t f.lex
    by (Literal l) is = is.0 ∙ ap Some (sym is.1)
    by (Class c) is = (is.0, record { utf8 = is_utf8-from_IsUtf8 f.lex utf8; short = short })

-- ---- tokens one after the other

-- tokens after separators
pub spaced : {v : Vocabulary} (cs : List ℕ) {at : ℕ} {ts : List Token} {end : ℕ} {rest : List ℕ}
    → AreTokens v (at + prefix_len is_separator cs) (after_separators cs) ts end rest → AreTokens v at cs ts end rest
spaced [] {at} are = let k : at + 0 ≡ at = omega arith in rw k at are
spaced {v} (c ∷ cs) {at} {ts} {end} {rest} are = go (is_separator c) refl (spaced cs)
  where
    go : (b : Bool) → is_separator c ≡ b
        → (AreTokens v ((at + 1) + prefix_len is_separator cs) (after_separators cs) ts end rest
        → AreTokens v (at + 1) cs ts end rest) → AreTokens v at (c ∷ cs) ts end rest
    go false h more = let k : at + 0 ≡ at = omega arith in rw (h, k) at are
    go true h more = let k : at + (1 + prefix_len is_separator cs) ≡ (at + 1) + prefix_len is_separator cs = omega arith in
        separator _ _ _ _ _ _ h (more (rw (h, k, drop_more) at are))

-- the width of the text after leading separators
pub left_width : (cs : List ℕ) (left : List ℕ) → IsUtf8 left → chars left ≡ after_separators cs
    → prefix_len is_separator cs + length left ≡ width cs
left_width cs left utf8 is = omega (arith, spaces cs, ap width is, width-chars left utf8)

-- ---- for the proof of the loop over a text

-- Tokens of the vocabulary from an offset on, none of them too long.
pub record ScanState (v : Vocabulary) (at : ℕ) (cs : List ℕ) (ts : List Token) (end : ℕ) (rest : List ℕ) : Type 0 where
  pub are : AreTokens v at cs ts end rest
  pub short : AreShort ts
  pub fit : FitAll v ts

-- The text up to `rest` was scanned: any tokens at the beginning of the rest, together with the tokens before the rest, are
-- tokens of the text. The rest does not begin with a separator.
pub record Scanned (v : Vocabulary) (text rest : List ℕ) : Type 0 where
  pub whole : (us : List Token) (end : ℕ) (last : List ℕ) → ScanState v (length text - length rest) (chars rest) us end last
      → (ts : List Token) × ScanState v 0 (chars text) ts end last
  pub plain : BeginsNoSeparator (chars rest)
  pub within : length rest ≤ length text

pub starts : {v : Vocabulary} {text rest : List ℕ} → IsUtf8 text → IsUtf8 rest → chars rest ≡ after_separators (chars text)
    → Scanned v text rest
starts {text = text} {rest = rest} utf8 utf8' is =
    let wide = left_width (chars text) rest utf8' is in
    let bytes = width-chars text utf8 in
    let there : length text - length rest ≡ 0 + prefix_len is_separator (chars text) = omega arith in
    record {
      whole =
          λ us end last occur. (
            us,
            record {
              are = spaced (chars text) (rw (there, is) at occur.are);
              short = occur.short;
              fit = occur.fit;
            },
          );
      plain = rw is (plain_after (chars text));
      within = omega arith;
    }

-- each character takes at least one byte
pub length_width : (cs : List ℕ) → length cs ≤ width cs
length_width [] = omega arith
length_width (c ∷ cs) = omega (arith, (len_utf8_bounds c).0, length_width cs)

module _ {v : Vocabulary} (text rest next : List ℕ) {t : Token} {following : List ℕ} (utf8 : IsUtf8 rest) (utf8' : IsUtf8 next)
    (takes : TakesToken v (chars rest) (length text - length rest) t following)
    (is : chars next ≡ after_separators following) where
  wide : length rest ≡ width takes.word + prefix_len is_separator following + length next
  wide =
      omega (
        arith,
        ap width takes.split,
        width-append takes.word following,
        width-chars rest utf8,
        left_width following next utf8' is,
      )

  -- the rest after a token is shorter
  pub shorter : HasNoEmpty v.literals → length next < length rest
  shorter none = omega (arith, word_some v t.kind takes.word t.lex none takes.token.is, length_width takes.word, wide)

  pub goes_on : Scanned v text rest → Scanned v text next
  goes_on scanned =
      let at = length text - length rest in
      let within = scanned.within in
      let there : length text - length next ≡ at + width takes.word + prefix_len is_separator following = omega (arith, wide) in
      record {
        whole = λ us end last occur. scanned.whole (record { kind = t.kind; lex = t.lex; at = at } ∷ us) end last (record {
          are =
              word _ _ _ _ _ _ _ _ _ takes.split takes.token (spaced following (rw (there, is) at occur.are));
          short = each_more _ _ _ takes.short occur.short;
          fit = each_more _ _ _ takes.fits occur.fit;
        });
        plain = rw is (plain_after following);
        within = omega (arith, wide);
      }

no_more : (text rest : List ℕ) → length rest ≡ 0 → (length text - length rest ≡ length text) × (chars rest ≡ [])
no_more text [] e = (omega arith, chars-nil)
no_more text (b ∷ rest) e = absurd (omega arith)

module _ {v : Vocabulary} {text rest : List ℕ} (readable : IsReadable text) (scanned : Scanned v text rest) where
  -- the tokens before the rest
  so_far : (ts : List Token) × ScanState v 0 (chars text) ts (length text - length rest) (chars rest)
  so_far = scanned.whole [] _ _ (record { are = ended _ _; short = each_none _; fit = each_none _ })

  pub ends : length rest ≡ 0 → (ts : List Token) × AreTokensOf v text ts × FitAll v ts
  ends none =
      let (over, empty) = no_more text rest none in
      let (ts, occur) = so_far in (
        ts,
        record { readable = readable; tokens = record { are = rw (over, empty) at occur.are; short = occur.short } },
        occur.fit,
      )

  pub stops : (e : ScanFault) → IsUtf8 rest → 0 < length rest → IsStopped v (chars rest) (length text - length rest) e
      → IsRefused v text e
  stops fault.TooLong utf8 some stopped = absurd stopped
  stops (fault.BadUtf8 k) utf8 some stopped = absurd stopped
  stops fault.NoMemory utf8 some stopped = tt
  stops (fault.LongToken k) utf8 some (there, long) =
      let (ts, occur) = so_far in (
        readable,
        record {
          before = ts;
          kind = long.kind;
          lex = long.lex;
          word = long.word;
          rest = long.rest;
          reaches = record { are = rw (← there, long.split) at occur.are; short = occur.short };
          token = long.token;
          long = long.long;
        },
      )
  stops (fault.NoToken k) utf8 some (there, none) =
      let (ts, occur) = so_far in
      (readable, go ts (chars rest) (width-chars rest utf8) scanned.plain none (rw (← there) at occur.are) occur.short)
    where
      go : (ts : List Token) (cs : List ℕ) → width cs ≡ length rest → BeginsNoSeparator cs → BeginsNone (IsAnyWord v) cs
          → AreTokens v 0 (chars text) ts k cs → AreShort ts → NoTokenAt v (chars text) k
      go ts [] bytes plain none are few = absurd (omega arith)
      go ts (c ∷ cs) bytes plain none are few =
          record {
            before = ts;
            first = c;
            rest = cs;
            reaches = record { are = are; short = few };
            no_separator = plain;
            no_word = none;
          }
