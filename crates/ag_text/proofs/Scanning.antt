-- The search for the next part.
use Rattle.std.proofs.Common.{◌≡◌, ◌≤◌, ◌<◌, ℕ, Bool, true, false, nat_le, ◌&&◌, List, [], ◌∷◌, ◌++◌, drop, chars, IsUtf8}
use Rattle.std.proofs.Common.{Option, Some, None, refl, ap, sym, ◌∙◌, subst, arith, append_assoc}
use Rattle.std.proofs.lemmas.Bool.Decides.{nat_tests}
use Rattle.std.specs.Str.{IsCharBoundary}
use Rattle.ag_tokens.specs.Ending.{Ending}
use Rattle.ag_tokens.specs.GrammarToken.{GrammarToken}
use Rattle.ag_tokens.specs.Parsing.{next, next_token, offset}
use Rattle.ag_tokens.specs.PlacedToken.{PlacedToken, Input}
use Rattle.ag_tokens.specs.Tokens.{Lexes}
use Rattle.ag_text.specs.Places.{IsPlace}
use Rattle.ag_text.specs.Resuming.{can_begin, from_part, later_part, next_part}
use Rattle.ag_text.proofs.Suffixes.{lexes_at}

-- The input j is what is left of the input i after the token `before`, and no part was found before j.
pub record Scanned (at : ℕ) (i j : Input) (before : GrammarToken) : Type 0 where
  pub us : List PlacedToken
  pub cut : i.left ≡ us ++ j.left
  pub same : later_part at i.left ≡ from_part at before j.left

pub scan_starts : (at : ℕ) (i : Input) (t : GrammarToken) → next_token i ≡ Some t → Scanned at i (next i) t
scan_starts at i t is = go i.left i.ending is
  where
    go : (ps : List PlacedToken) (e : Ending) → next_token (record { left = ps; ending = e }) ≡ Some t
        → Scanned at (record { left = ps; ending = e }) (next (record { left = ps; ending = e })) t
    go [] e is = let bad : ⊥ = cc in absurd bad
    go (p ∷ ps) e is = let same : p.token ≡ t = cc in
        record { us = p ∷ []; cut = refl; same = ap (λ u. from_part at u ps) same }

-- whether a part can begin with the next token, at the offset `at` or later
abbrev pub is_found : ℕ → GrammarToken → GrammarToken → Input → Bool
is_found at before t j = nat_le at (offset j) && can_begin before t (next_token (next j))

-- the test of the code, by its parts
pub found_if : (at here : ℕ) (before t : GrammarToken) (j k : Input) (after : Option GrammarToken) (b : Bool) → here ≡ offset j
    → k ≡ next j → after ≡ next_token k → b ≡ can_begin before t after → at ≤ here → is_found at before t j ≡ b
found_if at here before t j k after b there new comes begins late =
    let yes : nat_le at (offset j) ≡ true = grind (arith, nat_tests) in
    rw yes (ap (can_begin before t) (ap next_token (sym new) ∙ sym comes) ∙ sym begins)

pub not_found_if : (at here : ℕ) (before t : GrammarToken) (j : Input) → here ≡ offset j → here < at → is_found at before t j ≡ false
not_found_if at here before t j there early =
    let no : nat_le at (offset j) ≡ false = grind (arith, nat_tests) in rw no refl

module _ {at : ℕ} {i j : Input} {before : GrammarToken} (x : Scanned at i j before) where
  pub scan_goes_on : (t : GrammarToken) → next_token j ≡ Some t → is_found at before t j ≡ false → Scanned at i (next j) t
  scan_goes_on t is other = go j.left j.ending x.us x.cut x.same is other
    where
      go : (ps : List PlacedToken) (e : Ending) (us : List PlacedToken) → i.left ≡ us ++ ps
          → later_part at i.left ≡ from_part at before ps → next_token (record { left = ps; ending = e }) ≡ Some t
          → is_found at before t (record { left = ps; ending = e }) ≡ false → Scanned at i (next (record { left = ps; ending = e })) t
      go [] e us cut same is other = let bad : ⊥ = cc in absurd bad
      go (p ∷ ps) e us cut same is other =
          let token : p.token ≡ t = cc in
          record {
            us = us ++ p ∷ [];
            cut = cut ∙ sym (append_assoc us (p ∷ []) ps);
            same = same ∙ (rw (token, other) refl);
          }

  pub scan_found : (text : List ℕ) (from : ℕ) (t : GrammarToken) → IsUtf8 text → IsCharBoundary text from
      → Lexes from (chars (drop from text)) i → next_token j ≡ Some t → is_found at before t j ≡ true
      → IsPlace text (next_part at i) (Some (offset j))
  scan_found text from t utf8 boundary lexes is found = go j.left j.ending x.us x.cut x.same is found
    where
      go : (ps : List PlacedToken) (e : Ending) (us : List PlacedToken) → i.left ≡ us ++ ps
          → later_part at i.left ≡ from_part at before ps → next_token (record { left = ps; ending = e }) ≡ Some t
          → is_found at before t (record { left = ps; ending = e }) ≡ true
          → IsPlace text (next_part at i) (Some (offset (record { left = ps; ending = e })))
      go [] e us cut same is found = let bad : ⊥ = cc in absurd bad
      go (p ∷ ps) e us cut same is found =
          let token : p.token ≡ t = cc in
          let there = lexes_at text from i utf8 boundary lexes us p ps cut in
          let all : later_part at i.left ≡ p ∷ ps = same ∙ (rw (token, found) refl) in
          subst (λ qs. IsPlace text (record { left = qs; ending = i.ending }) (Some p.at)) (sym all) (there.0, refl, there.1)

  pub scan_ended : (text : List ℕ) → next_token j ≡ None → IsPlace text (next_part at i) None
  scan_ended text none = go j.left j.ending x.same none
    where
      go : (ps : List PlacedToken) (e : Ending) → later_part at i.left ≡ from_part at before ps
          → next_token (record { left = ps; ending = e }) ≡ None → later_part at i.left ≡ []
      go [] e same none = same
      go (p ∷ ps) e same none = let bad : ⊥ = cc in absurd bad

pub scan_empty : (text : List ℕ) (at : ℕ) (i : Input) → next_token i ≡ None → IsPlace text (next_part at i) None
scan_empty text at i none = go i.left i.ending none
  where
    go : (ps : List PlacedToken) (e : Ending) → next_token (record { left = ps; ending = e }) ≡ None → later_part at ps ≡ []
    go [] e none = refl
    go (p ∷ ps) e none = let bad : ⊥ = cc in absurd bad
