-- The body of a text literal, read character by character, and the loop that reads it.
use Rattle.std.specs.Option.{option_and_then}
use Rattle.std.proofs.Common.{◌≡◌, ℕ, zero, suc, ◌≤◌, ◌<◌, ◌≢◌, List, [], ◌∷◌, ◌++◌, length, Option, Some, None, chars, sym}
use Rattle.std.proofs.Common.{encode_utf8, encode_utf8_all, refl, arith, append_assoc, append-nil, take, ◌-◌, IsUtf8}
use Rattle.std.proofs.Common.{Bor, MatchOption}
use Rattle.std.specs.Str.{IsCharBoundary}
use Rattle.std.proofs.lemmas.Str.{encodes-append, chars_from_encodes, IsUtf8-take}
use Rattle.std.proofs.lemmas.Bool.{ne_eqb}
use Rattle.std.proofs.lemmas.Option.{none-some}
use Rattle.std.proofs.lemmas.Bool.Decides.{nat_tests}
use Rattle.ag_tokens.proofs.Spans.{seam, prefix_bytes}
use Rattle.ag_tokens.specs.GrammarToken.{GrammarToken}
use Rattle.ag_tokens.specs.GrammarToken as token
use Rattle.ag_tokens.specs.Tokens.{IsBody, empty, plain, escape, escaped}
use Rattle.ag_tokens.specs.Lexing.{piece_from, character_from, text_from, after_quote, unescaped, IsPast, IsAfterEscape}

-- The characters in `taken` have been read and denote the bytes in `prefix`; `rest` is left, and reading it to
-- its end gives `total`.
pub record Within (text rest : List ℕ) (total : Option (GrammarToken × List ℕ)) : Type 0 where
  pub taken : List ℕ
  pub prefix : List ℕ
  pub is : IsBody taken prefix
  pub split : text ≡ encode_utf8_all taken ++ rest
  pub turns : ℕ
  pub enough : length (chars rest) ≤ turns
  pub same : text_from turns prefix (chars rest) ≡ total

pub starts : (text : List ℕ) → Within text text (text_from (length (chars text)) [] (chars text))
starts text =
    record { taken = []; prefix = []; is = empty; split = refl; turns = length (chars text); enough = omega arith; same = refl }

joined : {xs bytes ys more : List ℕ} → IsBody xs bytes → IsBody ys more → IsBody (xs ++ ys) (bytes ++ more)
joined empty is = is
joined (plain c body bytes quote slash so_far) is = rw append_assoc (plain c _ _ quote slash (joined so_far is))
joined (escape c d body bytes same so_far) is = rw append_assoc (escape c d _ _ same (joined so_far is))

-- the characters after a character or an escape are fewer
shorter : (cs rest : List ℕ) (c : ℕ) → character_from cs ≡ Some (c, rest) → length rest < length cs
shorter cs rest c e = grind arith

pub goes_on : {text rest after : List ℕ} {total : Option (GrammarToken × List ℕ)} → IsPast rest after → Within text rest total
    → Within text after total
unfolding text_from
goes_on {text} {rest} {after} {total} past so_far = go so_far.turns so_far.enough so_far.same
  where
    less : length (chars after) < length (chars rest)
    less = shorter (chars rest) (chars after) past.character past.cut

    go : (n : ℕ) → length (chars rest) ≤ n → text_from n so_far.prefix (chars rest) ≡ total → Within text after total
    go zero enough same = absurd (omega (arith, less))
    go (suc n) enough same = record {
      taken = so_far.taken ++ past.piece;
      prefix = so_far.prefix ++ encode_utf8 past.character;
      is = rw (append-nil (encode_utf8 past.character)) at (joined so_far.is past.is);
      split =
          cc (
            append_assoc (encode_utf8_all so_far.taken) (encode_utf8_all past.piece) after,
            encodes-append so_far.taken past.piece,
            so_far.split,
            past.split,
          );
      turns = n;
      enough = omega (arith, less);
      same = rw past.cut at same;
    }

unescapes : {body bytes : List ℕ} → IsBody body bytes → unescaped body ≡ bytes
unescapes empty = refl
unescapes (plain c body bytes quote slash is) = rw (ne_eqb c 92 slash, unescapes is)
unescapes (escape c d body bytes same is) = rw (same, unescapes is)

-- the body that has been read is the text before `rest`: it ends at a character boundary, and denotes `prefix`
module _ {text rest : List ℕ} {total : Option (GrammarToken × List ℕ)} (so_far : Within text rest total) where
  pub stopped : character_from (chars rest) ≡ None
      → total ≡ option_and_then (λ following. Some (token.Text so_far.prefix, following)) (after_quote (chars rest))
  unfolding text_from
  stopped is = go so_far.turns so_far.enough so_far.same
    where
      go : (n : ℕ) → length (chars rest) ≤ n → text_from n so_far.prefix (chars rest) ≡ total
          → total ≡ option_and_then (λ following. Some (token.Text so_far.prefix, following)) (after_quote (chars rest))
      go zero enough same = let none : after_quote (chars rest) ≡ None = grind arith in rw none (sym same)
      go (suc n) enough same = sym (rw is at same)

  pub boundary : IsUtf8 rest → IsCharBoundary text (length text - length rest)
  boundary = seam text rest so_far.taken so_far.split

  pub body_is : IsUtf8 text → IsUtf8 rest → unescaped (chars (take (length text - length rest) text)) ≡ so_far.prefix
  body_is utf8 utf8' =
      let front = take (length text - length rest) text in
      let taken_is : so_far.taken ≡ chars front =
      chars_from_encodes so_far.taken front (IsUtf8-take text (length text - length rest) utf8 (boundary utf8'))
      (sym (prefix_bytes text rest so_far.taken so_far.split)) in
      rw (← taken_is) (unescapes so_far.is)

-- the text after an escape, whose backslash has been read
pub past_escape : (text following : List ℕ) (passed : Option (Bor (List ℕ))) → chars text ≡ 92 ∷ chars following
    → text ≡ encode_utf8 92 ++ following → IsAfterEscape following passed
    → MatchOption passed (character_from (chars text) ≡ None) (λ rest. IsPast text rest.now)
past_escape text following None characters split is = rw (characters, is)
past_escape text following (Some rest) characters split (c, h, more, after) =
    let one : (d : ℕ) × (escaped c ≡ Some d) = grind arith in
    record {
      character = one.0;
      piece = 92 ∷ c ∷ [];
      cut = rw (characters, more, one.1);
      is = escape c one.0 [] [] one.1 empty;
      split = cc (append_assoc (encode_utf8 92) (encode_utf8 c ++ []) rest.now, append-nil (encode_utf8 c));
    }

-- a character that denotes itself
pub past_plain : (text rest : List ℕ) (c : ℕ) → c ≢ 34 → c ≢ 92 → chars text ≡ c ∷ chars rest → text ≡ encode_utf8 c ++ rest
    → IsPast text rest
past_plain text rest c quote slash characters split = record {
  character = c;
  piece = c ∷ [];
  cut = rw (characters, ne_eqb c 34 quote, ne_eqb c 92 slash);
  is = plain c [] [] quote slash empty;
  split = cc (append-nil (encode_utf8 c));
}

-- the text after one character of a body
pub ruleset past = (past_escape, past_plain)

-- ---- the text that a body denotes, computed piece by piece

pub piece_some : (cs : List ℕ) (c : ℕ) (rest : List ℕ) → Some (c, rest) ≡ piece_from cs
    → (unescaped cs ≡ encode_utf8 c ++ unescaped rest) × (length rest < length cs)
piece_some [] c rest h = absurd (none-some _ (sym h))
piece_some (d ∷ []) c rest h = grind (arith, nat_tests)
piece_some (d ∷ e ∷ cs) c rest h = grind (arith, nat_tests)

pub piece_none : (cs : List ℕ) → None ≡ piece_from cs → unescaped cs ≡ []
piece_none [] h = refl
piece_none (d ∷ []) h = grind (arith, nat_tests)
piece_none (d ∷ e ∷ cs) h = grind (arith, nat_tests)
