-- The remaining input, by the next token.
use Rattle.std.proofs.Common.{◌≡◌, ◌==◌, ℕ, suc, ◌-◌, ◌≤◌, ◌+◌, Bool, true, List, [], ◌∷◌, length, drop, Result, Ok}
use Rattle.std.proofs.Common.{Err, Bor, IsUtf8, chars, refl, ap, arith}
use Rattle.std.proofs.lemmas.List.{length-drop}
use Rattle.std.proofs.lemmas.Str.{len_utf8_bounds, IsUtf8-drop}
use Rattle.std.proofs.lemmas.Bool.Decides.{nat_tests}
use Rattle.std.specs.Str.{IsCharBoundary}
use Rattle.ag_tokens.specs.PlacedToken.{Input}
use Rattle.ag_tokens.specs.declared.token.GrammarToken as lent
use Rattle.ag_tokens.specs.declared.fault.TokenFault.{TokenFault}
use Rattle.ag_tokens.specs.declared.fault.TokenFault.TheVariants as fault
use Rattle.ag_tokens.specs.Tokens.{width, Lexes}
use Rattle.ag_tokens.specs.Lexing.{token_from, token_of, AgreesOnToken}
use Rattle.ag_tokens.specs.Remaining.{after_separators, without_tokens, with_token, ending_by, cut, input, IsReady}
use Rattle.ag_tokens.specs.Parsing.{next, offset, is_end}
use Rattle.ag_tokens.proofs.Lexed.{is_after, spaces, width-chars}
use Rattle.ag_tokens.proofs.Lexes.{nothing_cut, same_cut, cut_at, cut_first}

abbrev LeadingWord : Type 0
LeadingWord = Result (lent.GrammarToken × Bor (List ℕ)) TokenFault

pub no_width : (cs : List ℕ) → width cs ≡ 0 → cs ≡ []
no_width [] e = refl
no_width (c ∷ cs) e = absurd (omega (arith, len_utf8_bounds c))

module _ (len : ℕ) (cs : List ℕ) where
  abbrev pub by_word : LeadingWord → Input
  by_word (Ok x) = with_token (len - width cs) (token_of x.0) (input len (after_separators (chars x.1.now)))
  by_word (Err e) = without_tokens (ending_by e (len - width cs) cs)

  -- the remaining input is the next token and the input after it, or it is empty
  pub prefix_is : (r : LeadingWord) → AgreesOnToken r (token_from cs) → input len cs ≡ by_word r
  unfolding cut input
  prefix_is (Ok x) given =
      let rest = after_separators (chars x.1.now) in
      let less = is_after cs given.0 in
      rw (given.0, given.1, same_cut (length cs) (suc (length rest)) len rest less.0 (omega arith))
  prefix_is (Err fault.Nothing) given = rw given
  prefix_is (Err fault.TooLarge) given = let read = token_from cs in grind arith

  -- the offset of the remaining input is that of the rest of the text, with and without a next token
  pub offset_is : (r : LeadingWord) → AgreesOnToken r (token_from cs) → offset (input len cs) ≡ len - width cs
  offset_is r given = let is = prefix_is r given in grind arith

  at_end : width cs ≡ 0 → is_end (input len cs).ending (input len cs).left ≡ true
  unfolding cut input
  at_end none = rw (no_width cs none, nothing_cut)

  -- the text ends if and only if no bytes are left
  pub ends_here : (r : LeadingWord) → AgreesOnToken r (token_from cs) → (n : ℕ) → width cs ≡ n → (b : Bool) → b ≡ (n == 0)
      → b ≡ is_end (input len cs).ending (input len cs).left
  ends_here r given n wide b is = let view = prefix_is r given in let none = at_end in grind (arith, nat_tests)

-- ---- for the values of the code

-- all of a text from an offset on
pub fits : (text : List ℕ) (from : ℕ) → IsUtf8 text → IsCharBoundary text from
    → from + width (chars (drop from text)) ≡ length text
fits text from utf8 boundary =
    omega (arith, boundary.0, width-chars (drop from text) (IsUtf8-drop text from utf8 boundary), length-drop from text)

-- the tokens after an offset are the remaining input of a new cursor
pub left_from : (text rest : List ℕ) (from : ℕ) → IsUtf8 text → IsCharBoundary text from
    → chars rest ≡ after_separators (chars (drop from text))
    → Lexes from (chars (drop from text)) (input (length text) (chars rest))
unfolding input cut_at
left_from text rest from utf8 boundary is =
    rw is (cut_first from (length text) (chars (drop from text)) (fits text from utf8 boundary))

-- the cursor holds the lexer's result for the rest, which begins after separators
pub ready : (cs : List ℕ) {text rest : List ℕ} {leading : LeadingWord} → width cs ≤ length text → chars rest ≡ after_separators cs
    → IsUtf8 rest → AgreesOnToken leading (token_from (chars rest)) → IsReady text rest leading
ready cs {rest} within is utf8 cut =
    let wide = width-chars rest utf8 in
    record { lexed = cut; fewer = omega (arith, spaces cs, ap width is); rest_wide = wide }

-- a cursor whose state is consistent
module _ {text now : List ℕ} {leading : LeadingWord} (here : IsReady text now leading) where
  pub view : {r : LeadingWord} → leading ≡ r → input (length text) (chars now) ≡ by_word (length text) (chars now) r
  view {r} is = prefix_is (length text) (chars now) r (rw is at here.lexed)

  module _ {x : lent.GrammarToken × Bor (List ℕ)} (is : leading ≡ Ok x) where
    -- the text after the next token is not longer
    pub following_fits : width (chars x.1.now) ≤ length text
    following_fits =
        let given = rw is at here.lexed in
        omega (arith, (is_after (chars now) given.0).1, here.rest_wide, here.fewer)

    pub next_is : (rest : List ℕ) → chars rest ≡ after_separators (chars x.1.now)
        → input (length text) (chars rest) ≡ next (input (length text) (chars now))
    next_is rest after = rw (after, view is)
