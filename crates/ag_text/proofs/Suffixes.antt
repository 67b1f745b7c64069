-- The tokens of a text from one token on are the tokens of the text from the offset of this token on.
use Rattle.std.proofs.Common.{◌≡◌, ◌≤◌, ◌+◌, ℕ, true, List, [], ◌∷◌, ◌++◌, length, drop, chars, IsUtf8, encode_utf8_all, refl, ap}
use Rattle.std.proofs.Common.{sym, ◌∙◌, subst, arith}
use Rattle.std.proofs.lemmas.Bool.{and_parts}
use Rattle.std.proofs.lemmas.List.{length-append, length-drop, drop-drop, drop_at}
use Rattle.std.proofs.lemmas.Str.{chars-encodes, encodes-append, encodes-chars, scalars-chars, IsUtf8-drop, IsCharBoundary-from_drop}
use Rattle.std.specs.Str.{IsCharBoundary}
use lib.Utf8.{scalars}
use Rattle.ag_tokens.specs.PlacedToken.{PlacedToken, Input}
use Rattle.ag_tokens.specs.Tokens.{all_within, is_within, width, AreTokens, ended, separator, word, Lexes}
use Rattle.ag_tokens.proofs.Lexed.{separator_width, width-encoded}

-- from the byte offset `at` on, the text is these characters
pub record IsFrom (text : List ℕ) (at : ℕ) (cs : List ℕ) : Type 0 where
  pub within : at ≤ length text
  pub valid : scalars cs ≡ true
  pub bytes : encode_utf8_all cs ≡ drop at text

last_valid : (ws cs : List ℕ) → scalars (ws ++ cs) ≡ true → scalars cs ≡ true
last_valid [] cs h = h
last_valid (w ∷ ws) cs h = last_valid ws cs (and_parts _ (scalars (ws ++ cs)) h).1

-- the text after a word
past : (text : List ℕ) (at : ℕ) (ws cs : List ℕ) → IsFrom text at (ws ++ cs) → IsFrom text (at + width ws) cs
past text at ws cs is =
    let split : drop at text ≡ encode_utf8_all ws ++ encode_utf8_all cs = sym is.bytes ∙ encodes-append ws cs in
    let wide : length (encode_utf8_all ws) ≡ width ws = sym (width-encoded ws) in
    let rest : drop (at + width ws) text ≡ encode_utf8_all cs =
    sym (drop-drop (width ws) at text) ∙ ap (drop (width ws)) split
    ∙ drop_at (encode_utf8_all ws) (encode_utf8_all cs) (width ws) wide in
    record {
      within =
          omega (
            arith,
            is.within,
            wide,
            ap length split,
            length-drop at text,
            length-append (encode_utf8_all ws) (encode_utf8_all cs),
          );
      valid = last_valid ws cs is.valid;
      bytes = sym rest;
    }

not_empty : (us : List PlacedToken) (p : PlacedToken) (ps : List PlacedToken) → [] ≡ us ++ p ∷ ps → ⊥
not_empty [] p ps e = cc
not_empty (u ∷ us) p ps e = cc

-- the tokens from the token p on
at_token : {at : ℕ} {cs : List ℕ} {qs : List PlacedToken} {end : ℕ} {rest : List ℕ} → AreTokens at cs qs end rest
    → (text : List ℕ) → IsFrom text at cs → (us : List PlacedToken) (p : PlacedToken) (ps : List PlacedToken) → qs ≡ us ++ p ∷ ps
    → (all : List ℕ) × IsFrom text p.at all × AreTokens p.at all (p ∷ ps) end rest
at_token (ended _ _) text is us p ps e = absurd (not_empty us p ps e)
at_token (separator at c cs _ _ _ space are) text is us p ps e =
    let wide : at + width (c ∷ []) ≡ at + 1 = omega (arith, separator_width c space) in
    at_token are text (subst (λ n. IsFrom text n cs) wide (past text at (c ∷ []) cs is)) us p ps e
at_token (word at all w cs t qs end rest split means longest are) text is [] p ps e =
    let same : p ≡ record { at = at; token = t } = cc in
    let others : ps ≡ qs = cc in
    subst
    (λ (q : PlacedToken). (all : List ℕ) × IsFrom text q.at all × AreTokens q.at all (q ∷ ps) end rest) (sym same)
    (subst (λ qs. (all : List ℕ) × IsFrom text at all × AreTokens at all (record { at = at; token = t } ∷ qs) end rest) (sym others)
    (all, is, word at all w cs t qs end rest split means longest are))
at_token (word at all w cs t qs _ _ split means longest are) text is (u ∷ us) p ps e =
    let others : qs ≡ us ++ p ∷ ps = cc in
    at_token are text (past text at w cs (subst (λ all. IsFrom text at all) split is)) us p ps others

last_within : (us ps : List PlacedToken) → all_within (us ++ ps) ≡ true → all_within ps ≡ true
last_within [] ps h = h
last_within (u ∷ us) ps h = last_within us ps (and_parts (is_within u.token) (all_within (us ++ ps)) h).1

-- From the offset of its token p on, the text has the tokens from p on, and this offset is a boundary between characters.
pub lexes_at : (text : List ℕ) (from : ℕ) (i : Input) → IsUtf8 text → IsCharBoundary text from → Lexes from (chars (drop from text)) i
    → (us : List PlacedToken) (p : PlacedToken) (ps : List PlacedToken) → i.left ≡ us ++ p ∷ ps
    → IsCharBoundary text p.at × Lexes p.at (chars (drop p.at text)) (record i { left = p ∷ ps })
lexes_at text from i utf8 boundary is us p ps e =
    let valid = IsUtf8-drop text from utf8 boundary in
    let (all, there, are) =
    at_token is.before text
    (record { within = boundary.0; valid = scalars-chars (drop from text) valid; bytes = encodes-chars (drop from text) valid })
    us p ps e in
    let same : chars (drop p.at text) ≡ all = ap chars (sym there.bytes) ∙ chars-encodes all there.valid in (
      IsCharBoundary-from_drop text p.at there.within (all, (there.valid, there.bytes)),
      rw same
          (record {
            rest = is.rest;
            before = are;
            within = last_within us (p ∷ ps) (subst (λ qs. all_within qs ≡ true) e is.within);
            stops = is.stops;
          }),
    )
