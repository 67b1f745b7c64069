-- The list of all faults of a text.
use Rattle.std.proofs.Common.{◌≡◌, ◌≤◌, ℕ, nat_lt, Bool, true, false, cond, List, [], ◌∷◌, length, map, Result, Ok, Err, IfOk, ◌↔◌}
use Rattle.std.proofs.Common.{chars, IsUtf8, refl, ap, sym, ◌∙◌, subst, arith}
use Rattle.std.proofs.lemmas.Bool.Decides.{nat_tests}
use Rattle.std.proofs.lemmas.Str.{IsUtf8-from_is_utf8, is_utf8-from_IsUtf8}
use Rattle.std.specs.Str.{is_utf8}
use Rattle.std.specs.Str.Lossy.{utf8_valid_len}
use Rattle.ag_tokens.specs.Tokens.{Lexes}
use Rattle.ag_tokens.specs.PlacedToken.{Input}
use Rattle.ag_tokens.proofs.Lexes.{one_input, same_input}
use Rattle.ag_grammar.specs.declared.raw.RawGrammar.{RawGrammar}
use Rattle.ag_grammar.specs.grammars.Accepted.{max_text_bytes}
use Rattle.ag_text.specs.Answers.{fault_of, answer_of, read_text, faults_in, AreFaultsOf, AreCharacterFaults}
use Rattle.ag_text.specs.Grammar.{ReadsAsGrammar}
use Rattle.ag_text.specs.Laws.{BeginsWith, HeadIsFirst, NoFaultsOfGrammars, OneListOfFaults}
use Rattle.ag_text.specs.Reading.{Outcome, grammar_of}
use Rattle.ag_text.specs.Resuming.{faults_by}
use Rattle.ag_text.specs.declared.fault.TextFault.{TextFault}
use Rattle.ag_text.specs.declared.fault.TextFault.TheVariants as fault
use Rattle.ag_text.specs.declared.stop.Stop.{Stop}
use Rattle.ag_text.proofs.Agree.{complete}
use Rattle.ag_text.proofs.Read.{reads_of}

pub one_list : OneListOfFaults
one_list text left right are also =
    let input = one_input (chars text) in sym (are input.0 input.1) ∙ also input.0 input.1

-- the first fault, by the cases of the two results
first_of_both : (text : List ℕ) (long valid : Bool) (o : Outcome RawGrammar) (further : Stop → List Stop) (bad : TextFault)
    → BeginsWith (cond long (Err fault.TooLong) (cond valid (answer_of text o) (Err bad)))
    (cond long (fault.TooLong ∷ []) (cond valid (map (fault_of text) (faults_by o further)) (bad ∷ [])))
first_of_both text true valid o further bad = ([], refl)
first_of_both text false true (Ok p) further bad = refl
first_of_both text false true (Err s) further bad = (map (fault_of text) (further s), refl)
first_of_both text false false o further bad = ([], refl)

first_in : (text : List ℕ) (i : Input) → BeginsWith (read_text text i) (faults_in text i)
first_in text i = first_of_both text _ _ (grammar_of i) _ _

pub head_is_first : HeadIsFirst
head_is_first text answer faults is memory are =
    let input = one_input (chars text) in
    subst (λ r. BeginsWith r faults) (is input.0 input.1 memory)
    (subst (BeginsWith (read_text text input.0)) (are input.0 input.1) (first_in text input.0))

-- a text without faults reads as a grammar
read_as : (text : List ℕ) (i : Input) → Lexes 0 (chars text) i → (r : Result RawGrammar TextFault) → read_text text i ≡ r
    → BeginsWith r [] → (raw : RawGrammar) × ReadsAsGrammar text raw
read_as text i lexes (Ok raw) e begins =
    (raw, reads_of text (Ok raw) (λ j other memory. ap (read_text text) (same_input 0 (chars text) j i other lexes) ∙ e))
read_as text i lexes (Err f) e (more, same) = let bad : ⊥ = cc in absurd bad

pub no_faults : NoFaultsOfGrammars
no_faults text faults are = (
  λ none.
      (let input = one_input (chars text) in
      read_as text input.0 input.1 (read_text text input.0) refl
      (subst (BeginsWith (read_text text input.0)) (are input.0 input.1 ∙ none) (first_in text input.0))),
  λ (raw, reads).
      (let read = complete (length text) reads.placed raw reads.spells in
      let valid = is_utf8-from_IsUtf8 text reads.utf8 in
      let short = reads.short in
      let inside : nat_lt max_text_bytes (length text) ≡ false = grind (arith, nat_tests) in
      sym (are _ reads.lexes) ∙ (rw (inside, valid, read) refl)),
)

-- ---- the list by the code's cases

pub of_characters : (text part : List ℕ) → part ≡ text → IsUtf8 text → length text ≤ max_text_bytes
    → (faults : List TextFault) → AreCharacterFaults part faults → AreFaultsOf text faults
of_characters text part same utf8 short faults are i lexes =
    let valid = is_utf8-from_IsUtf8 text utf8 in
    let inside : nat_lt max_text_bytes (length text) ≡ false = grind (arith, nat_tests) in
    rw (inside, valid) (subst (λ t. AreCharacterFaults t faults) same are i lexes)

pub of_bad_utf8 : (text : List ℕ) (at : ℕ) → (IsUtf8 text → ⊥) → at ≡ utf8_valid_len text → length text ≤ max_text_bytes
    → AreFaultsOf text (fault.BadUtf8 at ∷ [])
of_bad_utf8 text at bad there short i lexes =
    let none : is_utf8 text ≡ false = none (is_utf8 text) refl in
    let inside : nat_lt max_text_bytes (length text) ≡ false = grind (arith, nat_tests) in
    rw (inside, none) (ap (λ n. fault.BadUtf8 n ∷ []) (sym there))
  where
    none : (b : Bool) → is_utf8 text ≡ b → b ≡ false
    none false e = refl
    none true e = absurd (bad (IsUtf8-from_is_utf8 text e))

-- ---- the same for a result that may be `NoMemory`

pub by_characters : {V E : Type 0} (r : Result V E) (items : V → List TextFault) (text part : List ℕ) → part ≡ text → IsUtf8 text
    → length text ≤ max_text_bytes → IfOk r (λ v. AreCharacterFaults part (items v)) → IfOk r (λ v. AreFaultsOf text (items v))
by_characters (Ok v) items text part same utf8 short are = of_characters text part same utf8 short (items v) are
by_characters (Err e) items text part same utf8 short are = tt

pub by_list : {V E : Type 0} (r : Result V E) (items : V → List TextFault) (text : List ℕ) (faults : List TextFault)
    → AreFaultsOf text faults → IfOk r (λ v. items v ≡ faults) → IfOk r (λ v. AreFaultsOf text (items v))
by_list (Ok v) items text faults are same = subst (AreFaultsOf text) (sym same) are
by_list (Err e) items text faults are same = tt

pub none_by : {V E : Type 0} (r : Result V E) (items : V → List TextFault) (text : List ℕ)
    → IfOk r (λ v. AreFaultsOf text (items v)) → IfOk r (λ v. (items v ≡ []) ↔ ((raw : RawGrammar) × ReadsAsGrammar text raw))
none_by (Ok v) items text are = no_faults text (items v) are
none_by (Err e) items text are = tt
