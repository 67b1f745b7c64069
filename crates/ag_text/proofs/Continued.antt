-- After a fault fewer tokens are left, and the faults of these tokens do not depend on how many faults are allowed.
use Rattle.std.proofs.Common.{◌≡◌, ◌≤◌, ◌<◌, ℕ, zero, suc, Bool, true, false, cond, List, [], ◌∷◌, ◌++◌, length}
use Rattle.std.proofs.Common.{◌≢◌, Option, Some, None, Result, Ok, Err, IfOk, OnOk, IsUtf8, chars, drop, refl, ap, sym, ◌∙◌, subst, arith, append-nil, append_assoc}
use Rattle.ag_tokens.specs.Ending.{Ending}
use Rattle.ag_tokens.specs.GrammarToken.{GrammarToken}
use Rattle.ag_tokens.specs.Parsing.{sees}
use Rattle.ag_tokens.specs.PlacedToken.{PlacedToken, Input}
use Rattle.ag_tokens.specs.Tokens.{Lexes}
use Rattle.ag_tokens.proofs.Lexes.{cut_at, cut_only, same_input}
use Rattle.ag_tokens.proofs.States.{fits}
use Rattle.ag_text.specs.Places.{IsNoted, IsPlace}
use Rattle.ag_text.specs.Reading.{Outcome, Parser, grammar_of, is_any}
use Rattle.ag_text.specs.Resuming.{from_part, later_part, resumed, rest_from, faults_by, further_faults}
use Rattle.ag_text.specs.Resuming.{all_faults, stop_offset}
use Rattle.ag_text.specs.declared.stop.Stop.{Stop}
use Rattle.ag_text.specs.declared.stop.Stop.TheVariants as stop
use Rattle.ag_value.specs.declared.fault.NoMemory.{NoMemory}

either_short : (b : Bool) (ps qs : List PlacedToken) (n : ℕ) → length ps ≤ n → length qs ≤ n → length (cond b ps qs) ≤ n
either_short true ps qs n h k = h
either_short false ps qs n h k = k

from_part_short : (at : ℕ) (before : GrammarToken) (ps : List PlacedToken) → length (from_part at before ps) ≤ length ps
from_part_short at before [] = omega arith
from_part_short at before (p ∷ ps) = let more = from_part_short at p.token ps in
    either_short _ (p ∷ ps) (from_part at p.token ps) (length (p ∷ ps)) (omega arith) (omega arith)

-- the next part has fewer tokens left
shorter : (at : ℕ) (i : Input) → sees is_any i ≡ true → length (later_part at i.left) < length i.left
shorter at i some = go i.ending i.left some
  where
    go : (e : Ending) (ps : List PlacedToken) → sees is_any (record { left = ps; ending = e }) ≡ true
        → length (later_part at ps) < length ps
    go e [] some = let bad : ⊥ = cc in absurd bad
    go e (p ∷ ps) some = let short = from_part_short at p.token ps in omega arith

has_token : (i : Input) → sees is_any i ≡ true → 0 < length i.left
has_token i some = let less = shorter 0 i some in omega arith

none_further : (m : ℕ) (i : Input) → sees is_any i ≡ false → further_faults m i ≡ []
unfolding further_faults
none_further zero i none = refl
none_further (suc m) i none = rw none refl

same_by : {A : Type 0} (o : Outcome A) (f g : Stop → List Stop) → ((s : Stop) → f s ≡ g s) → faults_by o f ≡ faults_by o g
same_by (Ok x) f g h = refl
same_by (Err s) f g h = ap (λ ss. s ∷ ss) (h s)

-- two numbers of faults that are enough give the same list
same_faults : (n m : ℕ) (e : Ending) (ps : List PlacedToken) → length ps ≤ n → length ps ≤ m
    → further_faults n (record { left = ps; ending = e }) ≡ further_faults m (record { left = ps; ending = e })
unfolding further_faults
same_faults n m e [] h k =
    none_further n (record { left = []; ending = e }) refl ∙ sym (none_further m (record { left = []; ending = e }) refl)
same_faults zero m e (p ∷ ps) h k = absurd (omega arith)
same_faults (suc n) zero e (p ∷ ps) h k = absurd (omega arith)
same_faults (suc n) (suc m) e (p ∷ ps) h k =
    same_by (rest_from (record { left = p ∷ ps; ending = e })) _ _
    (λ s. let short = from_part_short (stop_offset s) p.token ps in
    same_faults n m e (from_part (stop_offset s) p.token ps) (omega arith) (omega arith))

-- the faults of an input, with a number that is enough
abbrev pub faults_left : Input → List Stop
faults_left i = further_faults (length i.left) i

-- one step of the definition
turn : (i : Input) → sees is_any i ≡ true → faults_left i ≡ faults_by (rest_from i) (λ s. faults_left (resumed s i))
unfolding further_faults
turn i some = go i.ending i.left some
  where
    go : (e : Ending) (ps : List PlacedToken) → sees is_any (record { left = ps; ending = e }) ≡ true
        → faults_left (record { left = ps; ending = e })
        ≡ faults_by (rest_from (record { left = ps; ending = e })) (λ s. faults_left (resumed s (record { left = ps; ending = e })))
    go e [] some = let bad : ⊥ = cc in absurd bad
    go e (p ∷ ps) some =
        same_by (rest_from (record { left = p ∷ ps; ending = e })) _ _
        (λ s. let short = from_part_short (stop_offset s) p.token ps in
        same_faults (length ps) (length (from_part (stop_offset s) p.token ps)) e (from_part (stop_offset s) p.token ps)
        (omega arith) (omega arith))

whole_turn : (i : Input) → all_faults i ≡ faults_by (grammar_of i) (λ s. faults_left (resumed s i))
whole_turn i =
    same_by (grammar_of i) _ _
    (λ s. let short = not_longer (stop_offset s) i.left in
    same_faults (length i.left) (length (later_part (stop_offset s) i.left)) i.ending (later_part (stop_offset s) i.left)
    (omega arith) (omega arith))
  where
    not_longer : (at : ℕ) (ps : List PlacedToken) → length (later_part at ps) ≤ length ps
    not_longer at [] = omega arith
    not_longer at (p ∷ ps) = let short = from_part_short at p.token ps in omega arith

-- ---- one step of the search

module _ {A : Type 0} (text : List ℕ) (read : Parser A) (from : ℕ) (cs : List ℕ) (j : Input) (there : Lexes from cs j) where
  pub noted_ok : (faults : List Stop) (x : A) (k : Input) → read j ≡ Ok (x, k) → (i : Input) → Lexes from cs i
      → IsNoted text i (read i) faults faults None
  noted_ok faults x k is i lexes =
      subst (λ o. IsNoted text i o faults faults None) (sym (ap read (same_input from cs i j lexes there) ∙ is)) (refl, refl)

  pub noted_err : (s : Stop) (before after : List Stop) (r : Result (Option ℕ) NoMemory) → (s ≢ stop.NoMemory → read j ≡ Err s)
      → OnOk r (s ≢ stop.NoMemory) → OnOk r (after ≡ before ++ s ∷ [])
      → IfOk r (λ next. (i : Input) → Lexes from cs i → IsPlace text (resumed s i) next)
      → IfOk r (λ next. (i : Input) → Lexes from cs i → IsNoted text i (read i) before after next)
  noted_err s before after (Ok next) is known pushed place = λ i lexes.
      subst (λ o. IsNoted text i o before after next) (sym (ap read (same_input from cs i j lexes there) ∙ is known))
      (pushed, place i lexes)
  noted_err s before after (Err e) is known pushed place = tt

-- ---- the search for all faults

-- The faults that are found, followed by those of the input at the place `next`, are all faults.
pub record Found (text : List ℕ) (found all : List Stop) (next : Option ℕ) : Type 0 where
  pub i : Input
  pub place : IsPlace text i next
  pub same : found ++ faults_left i ≡ all

noted : {A : Type 0} (text : List ℕ) (i : Input) (o : Outcome A) (before after : List Stop) (next : Option ℕ)
    → IsNoted text i o before after next → Found text after (before ++ faults_by o (λ s. faults_left (resumed s i))) next
unfolding further_faults
noted text i (Ok x) before after next is = record {
  i = record { left = []; ending = i.ending };
  place = subst (λ n. IsPlace text (record { left = []; ending = i.ending }) n) (sym is.1) refl;
  same = ap (λ ss. ss ++ []) is.0;
}
noted text i (Err s) before after next is = record {
  i = resumed s i;
  place = is.1;
  same = ap (λ ss. ss ++ faults_left (resumed s i)) is.0 ∙ append_assoc before (s ∷ []) (faults_left (resumed s i));
}

pub begins : (text : List ℕ) (i : Input) (after : List Stop) (next : Option ℕ) → IsNoted text i (grammar_of i) [] after next
    → Found text after (all_faults i) next
begins text i after next is = subst (λ all. Found text after all next) (sym (whole_turn i)) (noted text i (grammar_of i) [] after next is)

module _ {text : List ℕ} {found all : List Stop} {from : ℕ} (x : Found text found all (Some from)) where
  pub goes_on : (after : List Stop) (next : Option ℕ) → IsNoted text x.i (rest_from x.i) found after next → Found text after all next
  goes_on after next is =
      subst (λ whole. Found text after whole next) (ap (λ ss. found ++ ss) (sym (turn x.i x.place.1)) ∙ x.same)
      (noted text x.i (rest_from x.i) found after next is)

pub ended : {text : List ℕ} {found all : List Stop} → Found text found all None → found ≡ all
unfolding further_faults
ended {text} {found} {all} x =
    let none : faults_left x.i ≡ [] = none_further (length x.i.left) x.i (grind (arith, x.place)) in
    sym (append-nil found) ∙ ap (λ ss. found ++ ss) (sym none) ∙ x.same

-- ---- fewer tokens are left after each step

-- the number of tokens of the text from a place on
abbrev pub tokens_left : List ℕ → Option ℕ → ℕ
tokens_left text None = 0
tokens_left text (Some at) = length (cut_at (length text) (chars (drop at text))).left

measured : (text : List ℕ) (i : Input) (next : Option ℕ) → IsUtf8 text → IsPlace text i next → tokens_left text next ≡ length i.left
measured text i None utf8 is = sym (ap length is)
measured text i (Some at) utf8 is =
    ap (λ (k : Input). length k.left) (sym (cut_only at (length text) (chars (drop at text)) (fits text at utf8 is.0) i is.2))

pub fewer : {text : List ℕ} {found all : List Stop} {from : ℕ} (x : Found text found all (Some from)) (after : List Stop)
    (next : Option ℕ) → IsUtf8 text → IsNoted text x.i (rest_from x.i) found after next
    → tokens_left text next < tokens_left text (Some from)
fewer {text} {found} {all} {from} x after next utf8 = go (rest_from x.i)
  where
    go : (o : Outcome (Unit {0})) → IsNoted text x.i o found after next → tokens_left text next < tokens_left text (Some from)
    go (Ok y) is =
        let none : tokens_left text next ≡ 0 = ap (tokens_left text) is.1 in
        let all_left = measured text x.i (Some from) utf8 x.place in
        let some : 0 < length x.i.left = has_token x.i x.place.1 in
        omega (arith, none, all_left, some)
    go (Err s) is =
        let left = measured text (resumed s x.i) next utf8 is.1 in
        let all_left = measured text x.i (Some from) utf8 x.place in
        let less = shorter (stop_offset s) x.i x.place.1 in
        omega (arith, left, all_left, less)
