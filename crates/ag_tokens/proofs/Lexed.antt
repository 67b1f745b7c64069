-- Tokens that the lexer reads one after the other, and the separators between them.
use Rattle.std.proofs.Common.{◌≡◌, ℕ, ◌+◌, ◌-◌, ◌<◌, ◌≤◌, true, List, [], ◌∷◌, ◌++◌, length, drop, Some, chars}
use Rattle.std.proofs.Common.{inl, inr, IsUtf8, encode_utf8, encode_utf8_all, refl, ap, ◌∙◌, arith}
use Rattle.std.proofs.lemmas.List.{length-append, length-drop}
use Rattle.std.proofs.lemmas.Bool.{cases_Bool}
use Rattle.std.proofs.lemmas.Bool.Decides.{nat_tests}
use Rattle.std.specs.Char.{len_utf8}
use Rattle.std.specs.List.{prefix_len}
use Rattle.std.proofs.lemmas.Str.{length-encode, encodes-chars}
use Rattle.ag_tokens.specs.PlacedToken.{PlacedToken}
use Rattle.ag_tokens.specs.GrammarToken.{GrammarToken}
use Rattle.ag_tokens.specs.Tokens.{is_separator, width, AreTokens, separator}
use Rattle.ag_tokens.specs.Remaining.{BeginsNoSeparator, after_separators}
use Rattle.ag_tokens.specs.Lexing.{token_from}
use Rattle.ag_tokens.proofs.Prefixes.{drop_more}
use Rattle.ag_tokens.proofs.TokenLaws.{token_sound, word_some}

pub width-append : (xs ys : List ℕ) → width (xs ++ ys) ≡ width xs + width ys
width-append [] ys = omega arith
width-append (x ∷ xs) ys = let more = width-append xs ys in omega arith

-- The characters `rest` after the token at the beginning of `cs`, less their leading separators, are fewer characters than `cs`.
-- `rest` takes no more bytes than `cs`.
pub is_after : (cs : List ℕ) {t : GrammarToken} {rest : List ℕ} → token_from cs ≡ Some (t, rest)
    → (length (after_separators rest) < length cs) × (width rest ≤ width cs)
is_after cs {t} {rest} e =
    let (word, split, is) = token_sound cs e in
    let some = word_some word t is in (
      omega (arith, ap length split, length-append word rest, length-drop (prefix_len is_separator rest) rest),
      omega (arith, ap width split, width-append word rest),
    )

pub separator_width : (c : ℕ) → is_separator c ≡ true → len_utf8 c ≡ 1
separator_width c h = grind (arith, nat_tests)

pub spaces : (cs : List ℕ) → prefix_len is_separator cs + width (drop (prefix_len is_separator cs) cs) ≡ width cs
spaces [] = refl
spaces (c ∷ cs) = let more = spaces cs in grind (arith, separator_width, drop_more)

-- if tokens begin after the leading separators, they are also the tokens of the characters with these separators
pub spaced : (at : ℕ) (cs : List ℕ) {ps : List PlacedToken} {end : ℕ} {rest : List ℕ}
    → AreTokens (at + prefix_len is_separator cs) (drop (prefix_len is_separator cs) cs) ps end rest → AreTokens at cs ps end rest
spaced at [] are = let k : at + 0 ≡ at = omega arith in rw k at are
spaced at (c ∷ cs) are = elim (cases_Bool (is_separator c)) [
  | inl space ↦
      let k : at + (1 + prefix_len is_separator cs) ≡ (at + 1) + prefix_len is_separator cs = omega arith in
      separator at c cs _ _ _ space (spaced (at + 1) cs (rw (space, k, drop_more) at are))
  | inr other ↦ let k : at + 0 ≡ at = omega arith in rw (other, k) at are
]

pub plain_after : (cs : List ℕ) → BeginsNoSeparator (drop (prefix_len is_separator cs) cs)
plain_after [] = tt
plain_after (c ∷ cs) = let more = plain_after cs in grind (arith, drop_more)

pub width-encoded : (cs : List ℕ) → width cs ≡ length (encode_utf8_all cs)
width-encoded [] = refl
width-encoded (c ∷ cs) = let more = width-encoded cs in
    omega (arith, length-append (encode_utf8 c) (encode_utf8_all cs), length-encode c)

pub width-chars : (bs : List ℕ) → IsUtf8 bs → width (chars bs) ≡ length bs
width-chars bs is = width-encoded (chars bs) ∙ ap length (encodes-chars bs is)

-- a set with this lemma alone, for the prover
pub ruleset wide = (width-chars)
