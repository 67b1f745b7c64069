-- Expressions as a language that a parser reads: faults of the parser, and single signs.
use Rattle.ag_expr.proofs.Common
use Common.{◌||◌, rules, arith, ℕ, bytes_eq, ◌≡◌, ◌==◌, ◌&&◌, Bool, true, false, List, Option, Some, is_some, refl, nat_tests}
use Common.{bytes_eq-Decides, PlacedToken, is_sign, same_mark, choose, GrammarToken, Sign, mark, word, sign_token, ◌>>=◌, one}
use Common.{◌or◌, ExprFault, begins_expression}
use Common.fault
use denote.Enum.Bare.{same_true, true_same}
use Rattle.ag_tokens.specs.contracts.token.Punctuation.{the_type}
use Rattle.ag_tokens.specs.declared.token.Punctuation.{Punctuation}
use Rattle.ag_expr.proofs.reading.Exact as theory
use Rattle.ag_expr.proofs.reading.Exact.{Manner, Apart, Test, one_exact, one_starts, then_starts, or_starts, or_exact}
use Rattle.ag_expr.proofs.reading.Steady as steady
use Rattle.ag_expr.proofs.reading.Steady.{one_steady, wider_steady}
use Rattle.ag_expr.specs.language.Reading.{Parser, as_sign, expect, refusal, token_as}
use Rattle.ag_expr.specs.language.Syntax.{one_sign}

-- a test: the fault is X4 at this token, and an expression can begin with the token
abbrev is_deep : ExprFault → PlacedToken → Bool
is_deep (fault.TooDeep at) p = at == p.at && begins_expression p.token
is_deep _ p = false

abbrev pub manner : Manner GrammarToken ExprFault
manner = record { item = λ p. p.token; wrong = refusal; is_reported = λ f. true; is_deep = is_deep }

pub deep_is : (f : ExprFault) (p : PlacedToken) → is_deep f p ≡ true
    → (f ≡ fault.TooDeep p.at) × (begins_expression p.token ≡ true)
deep_is f p h = (grind (arith, nat_tests), grind arith)

pub is_too_deep : (p : PlacedToken) → begins_expression p.token ≡ true → is_deep (fault.TooDeep p.at) p ≡ true
is_too_deep p h = grind (arith, nat_tests)

abbrev pub Language : Type 0 → Type 1
Language = theory.Language GrammarToken

abbrev pub Exact : {A : Type 0} → Test → Language A → Parser A → Type 0
Exact = theory.Exact manner

abbrev pub Starts : {A : Type 0} → Test → Language A → Type 0
Starts = theory.Starts manner

abbrev pub Steady : {A : Type 0} → Language A → Parser A → Parser A → Type 0
Steady = steady.Steady manner

-- ---- one token

pub token_exact : {A : Type 0} {stops : Test} (meaning : GrammarToken → Option A)
    → Exact stops (one meaning) (token_as meaning)
token_exact meaning = one_exact (λ at. meaning) meaning (λ p. refl)

pub token_starts : {A : Type 0} (meaning : GrammarToken → Option A) → Starts (λ t. is_some (meaning t)) (one meaning)
token_starts meaning = one_starts meaning (λ p a h. rw h refl)

pub token_steady : {A : Type 0} (meaning : GrammarToken → Option A) (w : GrammarToken) (v : A) → meaning w ≡ Some v
    → Steady (one meaning) (token_as meaning) (token_as meaning)
token_steady meaning = one_steady (λ at. meaning) meaning (λ p. refl)

-- ---- one sign

-- a token that is a sign has the spelling of the sign
pub sign_is : (s : Sign) (t : GrammarToken) → is_sign s t ≡ true → t ≡ sign_token s
sign_is s t h = grind (arith, mark_is, name_is)
  where
    mark_is : (m n : Punctuation) → same_mark n m ≡ true → n ≡ m
    mark_is m n h = same_true the_type (search rules) n m h

    name_is : (m n : List ℕ) → bytes_eq n m ≡ true → n ≡ m
    name_is m n h = (bytes_eq-Decides n m).0 h

sign_same : (s : Sign) → is_sign s (sign_token s) ≡ true
sign_same (mark m) = true_same the_type m m refl
sign_same (word name) = (bytes_eq-Decides name name).1 refl

means_sign : (s : Sign) → as_sign s (sign_token s) ≡ Some tt
means_sign s = rw (sign_same s) refl

spelled_is : (s : Sign) (ts : List GrammarToken) (a : Unit {0}) → one (as_sign s) ts a → one_sign s ts a
spelled_is s ts a (t, e, means) = let is = sign_is s t in grind arith

pub sign_exact : {stops : Test} (s : Sign) → Exact stops (one_sign s) (expect s)
sign_exact {stops} s =
    let x = token_exact {stops = stops} (as_sign s) in
    record {
      sound = λ i j a h. let found = x.sound i j a h in (found.0, found.1, spelled_is s _ a found.2);
      complete = λ us j a is h. x.complete us j a (sign_token s, is, means_sign s) h;
    }

pub starts_with : {B : Type 0} {S : Unit {0} → Language B} (s : Sign)
    → Starts (is_sign s) (one_sign s >>= S)
starts_with s = then_starts (record {
  leads = λ us a e. (one_starts {m = manner} (as_sign s) (λ p b h. grind arith)).leads us tt (sign_token s, e, means_sign s);
})

pub sign_steady : (s : Sign) → Steady (one_sign s) (expect s) (expect s)
sign_steady s = wider_steady (spelled_is s) (token_steady (as_sign s) (sign_token s) tt (means_sign s))

-- ---- a form by its first token

pub record First {A : Type 0} (test stops : Test) (L : Language A)
    (r : Parser A) : Type 0 where
  pub starts : Starts test L
  pub exact : Exact stops L r

pub sign_first : {B : Type 0} {stops : Test} {S : Unit {0} → Language B} {r : Parser B}
    (s : Sign) → Exact stops (one_sign s >>= S) r → First (is_sign s) stops (one_sign s >>= S) r
sign_first s x = record { starts = starts_with s; exact = x }

pub or_first : {A : Type 0} {test those stops : Test} {L M : Language A} {l n : Parser A}
    → First test stops L l → First those stops M n → Apart test those
    → First (λ t. test t || those t) stops (L or M) (choose test l n)
or_first x y apart = record { starts = or_starts x.starts y.starts; exact = or_exact x.exact y.exact x.starts y.starts apart }
