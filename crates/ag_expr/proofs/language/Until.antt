-- An expression up to a semicolon: the result of parsing the tokens before it, and what follows for the text.
use Rattle.ag_expr.proofs.Common
use Common.{◌≡◌, ℕ, Bool, true, false, List, [], ◌∷◌, ◌++◌, drop, Option, Some, None, Result, Ok, Err, IfOk, chars, inl, inr}
use Common.{refl, ap, sym, ◌∙◌, subst, arith, Ending, sees, is_sign, is_end, offset, next, PlacedToken, Input, tokens}
use Common.{GrammarToken, mark, Lexes, ExprFault, Node, Occ, max_levels, IsFaultFrom, all_occurrences, IsReadEnded, KeepsContext}
use Common.{Expression, State, from_end, start}
use Common.punctuation
use Common.ending
use Rattle.std.proofs.Common.{IfErr}
use Rattle.ag_tokens.proofs.Lexes.{same_input}
use Rattle.ag_expr.specs.language.Offsets.{answer_of, read_from}
use Rattle.ag_expr.specs.language.Reading.{ending_fault, expr_from, expr_of, refusal}
use Rattle.ag_expr.specs.language.State.{complete_list, input, up_to}
use Rattle.ag_expr.specs.language.Syntax.{IsExpr}
use Rattle.ag_expr.specs.language.Until.{Ended, semicolon, first_semicolon, before_semicolon, after_semicolon, from_semicolon}
use Rattle.ag_expr.specs.language.Until.{with_offset, or_fault, until_by, read_until_from, IsReadUntil, ReadsUntil}
use Rattle.ag_expr.specs.language.Until.{IsRefusedUntil, IsReportedUntil, IsFirstUntil}
use Rattle.ag_expr.proofs.language.Agree.{read_of}
use Rattle.ag_expr.proofs.language.Listing.{listed_are_different}
use Rattle.ag_expr.proofs.language.Manner.{sign_is}
use Rattle.ag_expr.proofs.language.States.{all_at_end}
use Rattle.ag_expr.proofs.language.Texts.{spells_of, spelled_back, reported_of, occurs_at, ends_at, reported_before, reported_at}
use Rattle.ag_expr.proofs.language.Texts.{unless_memory}

-- ---- the first semicolon

abbrev is_semicolon : GrammarToken → Bool
is_semicolon = is_sign (mark punctuation.Semicolon)

-- if there is a first semicolon, the tokens are those before it, the semicolon, and those after it
pub split_first : (qs : List PlacedToken) (at : ℕ) → first_semicolon qs ≡ Some at
    → (qs ≡ before_semicolon qs ++ semicolon at ∷ after_semicolon qs) × (first_semicolon (before_semicolon qs) ≡ None)
split_first [] at h = let bad : ⊥ = cc in absurd bad
split_first (q ∷ qs) at h = let more = split_first qs at in let is = sign_is (mark punctuation.Semicolon) q.token in
    (grind (arith, is), grind arith)

-- and a semicolon after tokens without one is the first
pub found_first : (us : List PlacedToken) (at : ℕ) (ps : List PlacedToken) → first_semicolon us ≡ None
    → (first_semicolon (us ++ semicolon at ∷ ps) ≡ Some at) × (before_semicolon (us ++ semicolon at ∷ ps) ≡ us)
    × (after_semicolon (us ++ semicolon at ∷ ps) ≡ ps)
found_first [] at ps none = (refl, refl, refl)
found_first (u ∷ us) at ps none = let more = found_first us at ps in (grind arith, grind arith, grind arith)

-- if there is none, all tokens are before it
none_first : (qs : List PlacedToken) → first_semicolon qs ≡ None → (before_semicolon qs ≡ qs) × (from_semicolon qs ≡ [])
none_first [] h = (refl, refl)
none_first (q ∷ qs) h = let more = none_first qs in (grind arith, grind arith)

-- and if there is one, the tokens from it on are not empty
never : (qs : List PlacedToken) (at : ℕ) → first_semicolon qs ≡ Some at → from_semicolon qs ≡ [] → ⊥
never [] at h none = cc
never (q ∷ qs) at h none = let more = never qs at in grind arith

-- the tokens from the semicolon on are the semicolon and those after it
from_first : (qs : List PlacedToken) (p : PlacedToken) (ps : List PlacedToken) → from_semicolon qs ≡ p ∷ ps
    → (first_semicolon qs ≡ Some p.at) × (after_semicolon qs ≡ ps)
from_first [] p ps h = let bad : ⊥ = cc in absurd bad
from_first (q ∷ qs) p ps h = let more = from_first qs p ps in (grind arith, grind arith)

-- ---- parsing the tokens before the semicolon

-- the result, from that of the tokens before the semicolon
abbrev by_end : Option ℕ → Ending → Result Expression ExprFault → Result Ended ExprFault
by_end (Some at) e r = with_offset at r
by_end None e r = or_fault (ending_fault e) r

until_is : (i : Input) → read_until_from i ≡ by_end (first_semicolon i.left) i.ending (read_from (up_to true i))
until_is i = let none = none_first i.left in grind arith

module _ (i : Input) where
  abbrev all : List Occ
  all = complete_list (start true i)

  -- the result of parsing the tokens before the semicolon as a whole text
  whole : (o : Result (Node × Input) ExprFault) → expr_of all max_levels (input (start true i)) ≡ o
      → read_from (up_to true i) ≡ answer_of all o
  unfolding complete_list input
  whole o h =
      ap (λ os. answer_of os (expr_of os max_levels (up_to true i)))
      (sym (listed_are_different (all_occurrences (up_to true i).left))) ∙ ap (answer_of all) h

  pub refused_within : (f : ExprFault) → expr_from all max_levels (input (start true i)) ≡ Err f → read_until_from i ≡ Err f
  unfolding expr_of
  refused_within f h = until_is i ∙ ap (by_end (first_semicolon i.left) i.ending) (whole (Err f) (rw h refl)) ∙ grind arith

  module _ (c : Input) (e : Node) (read : expr_from all max_levels (input (start true i)) ≡ Ok (e, up_to true c))
      (same : from_end true c ≡ from_end true i) where
    rest : from_semicolon i.left ≡ from_semicolon c.left
    rest = sym (ap (λ (k : Input). k.left) same)

    ending_is : c.ending ≡ i.ending
    ending_is = ap (λ (k : Input). k.ending) same

    pub ended : sees is_semicolon c ≡ true
        → (read_until_from i ≡ Ok (record { tree = e; occurrences = all }, offset c))
        × (next c ≡ record i { left = after_semicolon i.left })
    ended h =
        let from = from_first i.left in
        let here = rest in
        let same = ending_is in
        let all_read =
        whole (Ok (e, up_to true c)) (read_of all max_levels (input (start true i)) (up_to true c) e read (grind arith)) in
        (until_is i ∙ rw all_read (grind (arith, from)), grind (arith, from))

    refused_at : is_end (up_to true c).ending (up_to true c).left ≡ false
        → expr_of all max_levels (input (start true i)) ≡ Err (refusal (up_to true c))
    unfolding expr_of
    refused_at more = rw (read, more) refl

    pub refused_after : sees is_semicolon c ≡ false → read_until_from i ≡ Err (refusal (up_to true c))
    refused_after h = until_is i ∙ by (is_end (up_to true c).ending (up_to true c).left) refl
      where
        by : (b : Bool) → is_end (up_to true c).ending (up_to true c).left ≡ b
            → by_end (first_semicolon i.left) i.ending (read_from (up_to true i)) ≡ Err (refusal (up_to true c))
        by true ends =
            let all_read =
            whole (Ok (e, up_to true c)) (read_of all max_levels (input (start true i)) (up_to true c) e read ends) in
            let none : c.left ≡ [] = grind arith in
            let no_first = never i.left in
            rw all_read (let here = rest in let same = ending_is in grind (arith, no_first))
        by false more =
            ap (by_end (first_semicolon i.left) i.ending) (whole (Err (refusal (up_to true c))) (refused_at more)) ∙ grind arith

-- the result, from the state of a reader that has parsed an expression
module _ (i : Input) (s : State) (e : Node) (read : expr_from (all i) max_levels (input (start true i)) ≡ Ok (e, input s))
    (kept : KeepsContext (start true i) s) where
  tokens_are : input s ≡ up_to true s.tokens
  unfolding input
  tokens_are = ap (λ b. up_to b s.tokens) kept.kind

  following : from_end true s.tokens ≡ from_end true i
  following = sym (ap (λ b. from_end b s.tokens) kept.kind) ∙ kept.following

  pub ended_of : sees is_semicolon s.tokens ≡ true
      → (read_until_from i ≡ Ok (record { tree = e; occurrences = all i }, offset s.tokens))
      × (next s.tokens ≡ record i { left = after_semicolon i.left })
  ended_of h = ended i s.tokens e (read ∙ ap (λ j. Ok (e, j)) tokens_are) following h

  pub refused_of : sees is_semicolon s.tokens ≡ false → read_until_from i ≡ Err (refusal (input s))
  refused_of h =
      refused_after i s.tokens e (read ∙ ap (λ j. Ok (e, j)) tokens_are) following h ∙ ap (λ j. Err (refusal j)) (sym tokens_are)

  pub all_of : sees is_semicolon s.tokens ≡ true → s.listed ≡ all i
  all_of h = sym (all_at_end s (ap (λ (j : Input). is_end j.ending j.left) tokens_are ∙ grind arith)) ∙ kept.occurrences

-- ---- the token of a fault

module _ (i : Input) (f : ExprFault) where
  reported_until : (o : Option ℕ) → until_by o i ≡ Err f → IsReportedUntil o i f
  reported_until (Some at) is = let reported =
      reported_of (record { left = before_semicolon i.left; ending = ending.EndsAt at }) f in reported (grind arith)
  reported_until None is = go (read_from i) refl is
    where
      go : (r : Result Expression ExprFault) → read_from i ≡ r → or_fault (ending_fault i.ending) r ≡ Err f
          → IsReportedUntil None i f
      go (Ok x) read is =
          let s = spells_of i x read in
          let same : ending_fault i.ending ≡ f = cc in
          inr (record { at = s.at; ends = s.ends; says = sym same ∙ ap ending_fault s.ends; tree = x.tree; spells = s.spells })
      go (Err g) read is = let same : g ≡ f = cc in inl (reported_of i f (read ∙ ap Err same))

  says_until : (from : ℕ) (cs : List ℕ) → Lexes from cs i → (o : Option ℕ) → first_semicolon i.left ≡ o → IsReportedUntil o i f
      → IsFaultFrom from cs f
  says_until from cs lexes (Some at) h reported =
      let cut = split_first i.left at h in
      let stop = occurs_at from cs i lexes (before_semicolon i.left) (semicolon at) (after_semicolon i.left) cut.0 in
      reported_before from cs i lexes (record { left = before_semicolon i.left; ending = ending.EndsAt at })
      (semicolon at ∷ after_semicolon i.left) cut.0 (inl stop.0) _ max_levels f reported
  says_until from cs lexes None h (inl reported) = reported_at from cs i lexes _ max_levels f reported
  says_until from cs lexes None h (inr u) =
      subst (IsFaultFrom from cs) (ap ending_fault u.ends ∙ sym u.says) (ends_at from cs i lexes)

pub first_until : (text : List ℕ) (from : ℕ) (r : Result Ended ExprFault) → IsReadUntil text from r
    → IfErr r (IsFirstUntil text from)
first_until text from (Ok x) is = tt
first_until text from (Err f) is = λ i lexes memory. reported_until i f (first_semicolon i.left) (is i lexes (λ q. memory cc))

-- ---- what follows for the text

module _ (text : List ℕ) (from : ℕ) (j : Input) (lexes : Lexes from (chars (drop from text)) j) where
  pub is_read : (r : Result Ended ExprFault) (new : Input) → IsReadEnded j r new → IsReadUntil text from r
  is_read (Ok x) new is k lexed memory = ap read_until_from (same_input from (chars (drop from text)) k j lexed lexes) ∙ is.0
  is_read (Err e) new is k lexed memory =
      ap read_until_from (same_input from (chars (drop from text)) k j lexed lexes) ∙ is (λ q. memory (ap Err q))

  reads_by : (x : Ended) (o : Option ℕ) → first_semicolon j.left ≡ o → until_by o j ≡ Ok x → ReadsUntil text from x
  reads_by x None none is = let bad : ⊥ = grind arith in absurd bad
  reads_by x (Some at) h is =
      let part : Input = record { left = before_semicolon j.left; ending = ending.EndsAt at } in
      let read : (read_from part ≡ Ok x.0) × (at ≡ x.1) = (grind arith, grind arith) in
      let s = spells_of part x.0 read.0 in
      let cut = split_first j.left x.1 (h ∙ ap Some read.1) in
      record {
        placed = before_semicolon j.left;
        rest = after_semicolon j.left;
        ending = j.ending;
        lexes = subst (λ ps. Lexes from (chars (drop from text)) (record { left = ps; ending = j.ending })) cut.0 lexes;
        first = cut.1;
        listed = s.listed;
        spells = subst (λ os. IsExpr os max_levels (tokens (before_semicolon j.left)) x.0.tree) (sym s.listed) s.spells;
      }

  pub reads_until : (r : Result Ended ExprFault) → IsReadUntil text from r → IfOk r (ReadsUntil text from)
  reads_until (Ok x) is = reads_by x (first_semicolon j.left) refl (is j lexes (λ q. cc))
  reads_until (Err e) is = tt

  pub refuses_until : (r : Result Ended ExprFault) → IsReadUntil text from r → IfErr r (IsRefusedUntil text from)
  refuses_until (Ok x) is = tt
  refuses_until (Err e) is = λ memory x reads.
      let found = found_first reads.placed x.1 reads.rest reads.first in
      let k : Input = record { left = reads.placed ++ semicolon x.1 ∷ reads.rest; ending = reads.ending } in
      let back =
      ap (λ o. until_by o k) found.0
      ∙ ap (λ ps. with_offset x.1 (read_from (record { left = ps; ending = ending.EndsAt x.1 }))) found.1
      ∙ ap (with_offset x.1) (spelled_back reads.placed x.1 x.0 reads.listed reads.spells) in
      let contradiction = sym (is k reads.lexes (λ q. memory cc)) ∙ back in
      cc

  pub offsets_until : (r : Result Ended ExprFault) → IsReadUntil text from r → IfErr r (IsFaultFrom from (chars (drop from text)))
  offsets_until (Ok x) is = tt
  offsets_until (Err f) is =
      unless_memory from (chars (drop from text)) f
      (λ memory. says_until j f from (chars (drop from text)) lexes (first_semicolon j.left) refl
      (first_until text from (Err f) is j lexes memory))
