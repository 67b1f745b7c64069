-- The tokens that the lexer reads one after the other are those of the text, and a text has no others.
use Rattle.std.proofs.Common.{◌≡◌, ℕ, zero, suc, ◌+◌, ◌-◌, ◌<◌, ◌≤◌, true, List, [], ◌∷◌, ◌++◌, length}
use Rattle.std.proofs.Common.{inl, inr, Some, None, refl, ap, sym, ◌∙◌, arith}
use Rattle.std.proofs.lemmas.Bool.{and_parts, cases_Bool}
use Rattle.std.proofs.Math.Seq.{drop-append_seam}
use Rattle.std.proofs.lemmas.List.{length-append, length-drop}
use Rattle.std.specs.List.{prefix_len}
use Rattle.ag_tokens.specs.Ending.{Ending, offset_of}
use Rattle.ag_tokens.specs.Ending as ending
use Rattle.ag_tokens.specs.Laws.{OneInput}
use Rattle.ag_tokens.specs.Remaining.{BeginsNoSeparator, after_separators, without_tokens, ending_at, cut}
use Rattle.ag_tokens.specs.Lexing.{token_from}
use Rattle.ag_tokens.specs.PlacedToken.{PlacedToken, Input}
use Rattle.ag_tokens.specs.GrammarToken.{GrammarToken}
use Rattle.ag_tokens.specs.Tokens.{is_separator, is_within, all_within, width, IsToken, IsLongest, AreTokens, ended, separator}
use Rattle.ag_tokens.specs.Tokens.{word, HasNoToken, Stops, Lexes}
use Rattle.ag_tokens.proofs.Lexed.{is_after, spaces, spaced, plain_after, separator_width, width-append}
use Rattle.ag_tokens.proofs.Options.{none_or_some}
use Rattle.ag_tokens.proofs.Prefixes.{drop_more}
use Rattle.ag_tokens.proofs.TokenLaws.{token_sound, token_reached, longest_is_cut, nothing_is_cut, begins_plain, word_some}

pub nothing_cut : token_from [] ≡ None
unfolding token_from
nothing_cut = refl

-- any two numbers of steps that suffice give the same input
pub same_cut : (n m len : ℕ) (cs : List ℕ) → length cs < n → length cs < m → cut n len cs ≡ cut m len cs
unfolding cut
same_cut (suc n) (suc m) len cs h k = elim (none_or_some (token_from cs)) [
  | inl e ↦ rw e
  | inr (p, e) ↦
      let less = is_after cs e in
      rw (e, same_cut n m len (after_separators p.1) (omega arith) (omega arith))
]
same_cut _ _ len cs h k = absurd (omega arith)

-- no token is before the ending
none_before : (cs : List ℕ) (e : Ending) → Stops e cs → Lexes (offset_of e) cs (without_tokens e)
none_before cs e stops = record { rest = cs; before = ended (offset_of e) cs; within = refl; stops = stops }

none_cut : (at : ℕ) (cs : List ℕ) → BeginsNoSeparator cs → token_from cs ≡ None → Lexes at cs (without_tokens (ending_at at cs))
none_cut at [] plain e = none_before [] (ending.EndsAt at) refl
none_cut at (c ∷ cs) plain e = none_before (c ∷ cs) (ending.NoTokenAt at) (plain, nothing_is_cut (c ∷ cs) e)

-- the tokens after leading separators
after_spaces : {at from : ℕ} {cs : List ℕ} {i : Input} → Lexes at (after_separators cs) i → at ≡ from + prefix_len is_separator cs
    → Lexes from cs i
after_spaces {from} {cs} is place =
    record { rest = is.rest; before = spaced from cs (rw place at is.before); within = is.within; stops = is.stops }

-- the tokens that the lexer reads are those of the text
cut_lexes : (n len : ℕ) (cs : List ℕ) → length cs < n → width cs ≤ len
    → BeginsNoSeparator cs → Lexes (len - width cs) cs (cut n len cs)
unfolding cut
cut_lexes zero len cs h wide plain = absurd (omega arith)
cut_lexes (suc n) len cs h wide plain = elim (none_or_some (token_from cs)) [
  | inl e ↦ rw e (none_cut (len - width cs) cs plain e)
  | inr ((t, us), e) ↦
      let (w, split, is, longest) = longest_is_cut cs us t e in
      elim (cases_Bool (is_within t)) [
        | inl within ↦
            let less = is_after cs e in
            let space = spaces us in
            let at = len - width cs in
            let i = cut n len (after_separators us) in
            let wide' : at + width w ≡ len - width us = omega (arith, ap width split, width-append w us) in
            let next : Lexes (at + width w) us i =
            after_spaces (cut_lexes n len (after_separators us) (omega arith) (omega arith) (plain_after us)) (omega arith) in
            rw (e, within)
            (record {
              rest = next.rest;
              before = word at cs w us t i.left (offset_of i.ending) next.rest split is longest next.before;
              within = rw within next.within;
              stops = next.stops;
            })
        | inr large ↦
            rw (e, large)
            (none_before cs (ending.TooLargeAt (len - width cs))
            (record { word = w; token = t; following = us; split = split; is = is; longest = longest; large = large }))
      ]
]

-- ---- a text has no other tokens

-- a word of a token does not begin with a separator
plain_word : (cs w rest : List ℕ) (t : GrammarToken) → cs ≡ w ++ rest → IsToken w t → (after_separators cs ≡ cs) × (0 < length w)
plain_word cs w rest t split is = let plain = begins_plain w t is in (grind arith, word_some w t is)

-- the lexer reads the longest token
cut_there : (cs w rest : List ℕ) (t : GrammarToken) → cs ≡ w ++ rest → IsToken w t → IsLongest w rest
    → token_from cs ≡ Some (t, rest)
cut_there cs w rest t split is longest =
    let found = token_reached w rest t is in
    let (v, same, token) = token_sound (w ++ rest) found.is in
    let less = longest v found.left found.value same token in
    let equal : length w ≡ length v = omega (arith, ap length same, length-append w rest, length-append v found.left) in
    let back : found.left ≡ rest = cc (drop-append_seam w rest, drop-append_seam v found.left) in
    rw (split, found.is, found.same (ap length back), back)

none_there : (c : ℕ) (cs : List ℕ) → HasNoToken (c ∷ cs) → token_from (c ∷ cs) ≡ None
none_there c cs h = elim (none_or_some (token_from (c ∷ cs))) [
  | inl e ↦ e
  | inr ((t, us), e) ↦ let (w, split, is) = token_sound (c ∷ cs) e in absurd (h.1 w us t split is)
]

cut_end : (e : Ending) (rest : List ℕ) → Stops e rest → (n len : ℕ) → offset_of e + width rest ≡ len
    → cut (suc n) len (after_separators rest) ≡ without_tokens e
unfolding cut
cut_end (ending.EndsAt at) rest h n len place = let there : len - 0 ≡ at = omega (arith, ap width h) in
    rw (h, nothing_cut, there)
cut_end (ending.NoTokenAt at) [] h n len place = absurd h
cut_end (ending.NoTokenAt at) (c ∷ rest) h n len place =
    let there : len - width (c ∷ rest) ≡ at = omega arith in
    rw (h.0, none_there c rest h, there)
cut_end (ending.TooLargeAt at) rest h n len place =
    let plain = (plain_word rest h.word h.following h.token h.split h.is).0 in
    let there : len - width rest ≡ at = omega arith in
    rw (plain, cut_there rest h.word h.following h.token h.split h.is h.longest, h.large, there)

-- the tokens of the text are those that the lexer reads
cut_is : {at : ℕ} {cs : List ℕ} {ps : List PlacedToken} {end : ℕ} {rest : List ℕ} → AreTokens at cs ps end rest → (e : Ending)
    → end ≡ offset_of e → Stops e rest → all_within ps ≡ true
    → (n len : ℕ) → at + width cs ≡ len → length (after_separators cs) < n
    → cut n len (after_separators cs) ≡ record { left = ps; ending = e }
unfolding cut
cut_is (ended _ cs) e ends stops within (suc n) len place h = cut_end e cs stops n len (rw ends at place)
cut_is (separator _ c _ _ _ _ space are) e ends stops within n len place h =
    let one = separator_width c space in
    rw (space, drop_more) (cut_is are e ends stops within n len (omega arith) (rw (space, drop_more) at h))
cut_is (word at all w cs t ps _ _ split is longest are) e ends stops within (suc n) len place h =
    let plain = plain_word all w cs t split is in
    let both = and_parts (is_within t) (all_within ps) within in
    let there : len - width all ≡ at = omega arith in
    let more =
    cut_is are e ends stops both.1 n len (omega (arith, ap width split, width-append w cs))
    (omega (arith, ap length plain.0, ap length split, length-append w cs, length-drop (prefix_len is_separator cs) cs)) in
    rw (plain.0, cut_there all w cs t split is longest, both.0, there, more)
cut_is are e ends stops within zero len place h = absurd (omega arith)

-- the one list of tokens and the ending of characters that end at the offset `len`
unfoldable pub cut_at : ℕ → List ℕ → Input
cut_at len cs = cut (suc (length (after_separators cs))) len (after_separators cs)

pub cut_first : (from len : ℕ) (cs : List ℕ) → from + width cs ≡ len → Lexes from cs (cut_at len cs)
unfolding cut_at
cut_first from len cs fits =
    let space = spaces cs in
    let left = after_separators cs in
    after_spaces (cut_lexes (suc (length left)) len left (omega arith) (omega arith) (plain_after cs)) (omega arith)

pub cut_only : (from len : ℕ) (cs : List ℕ) → from + width cs ≡ len → (i : Input) → Lexes from cs i → i ≡ cut_at len cs
unfolding cut_at
cut_only from len cs fits i is =
    sym (cut_is is.before i.ending refl is.stops is.within (suc (length (after_separators cs))) len fits (omega arith))

pub one_input : OneInput
one_input cs = (cut_at (width cs) cs, cut_first 0 (width cs) cs (omega arith), cut_only 0 (width cs) cs (omega arith))

-- the tokens of given characters, by computation
pub lexed : (cs : List ℕ) (i : Input) (len : ℕ) → width cs ≡ len → cut_at len cs ≡ i → Lexes 0 cs i
lexed cs i len wide worked = rw (← worked) (cut_first 0 len cs (omega arith))

-- characters from an offset on have one list of tokens, too
pub same_input : (from : ℕ) (cs : List ℕ) (i j : Input) → Lexes from cs i → Lexes from cs j → i ≡ j
same_input from cs i j one other =
    cut_only from (from + width cs) cs refl i one ∙ sym (cut_only from (from + width cs) cs refl j other)

-- the offset and the number of remaining bytes have the same sum before and after the tokens
pub ends_wide : {at : ℕ} {cs : List ℕ} {ps : List PlacedToken} {end : ℕ} {rest : List ℕ} → AreTokens at cs ps end rest
    → at + width cs ≡ end + width rest
ends_wide (ended _ _) = refl
ends_wide (separator _ c _ _ _ _ h are) = let one = separator_width c h in let more = ends_wide are in omega arith
ends_wide (word _ _ w cs _ _ _ _ split _ _ are) = let more = ends_wide are in
    omega (arith, ap width split, width-append w cs)
