-- Grammars as a language of tokens with offsets that a parser reads.
use Rattle.std.proofs.Common.{◌≡◌, ℕ, Bool, true, false, List, [], ◌∷◌, map, Option, Some, refl, ap}
use Rattle.ag_tokens.specs.PlacedToken.{PlacedToken}
use Rattle.ag_tokens.specs.GrammarToken.{GrammarToken}
use Rattle.ag_expr.proofs.reading.Exact as theory
use Rattle.ag_expr.proofs.reading.Exact.{Manner, one_exact, one_starts}
use Rattle.ag_expr.proofs.reading.Steady as steady
use Rattle.ag_expr.proofs.reading.Steady.{one_steady}
use Rattle.ag_text.specs.Reading.{Parser, one_from, refusal}
use Rattle.ag_text.specs.Syntax.{one}
use Rattle.ag_text.specs.declared.stop.Stop.{Stop}
use Rattle.ag_text.specs.declared.stop.Stop.TheVariants.{WrongAt}

-- whether a fault is about a token of the grammar, and not about an expression
abbrev is_reported : Stop → Bool
is_reported (WrongAt at) = true
is_reported _ = false

abbrev pub manner : Manner PlacedToken Stop
manner = record { item = λ p. p; wrong = refusal; is_reported = is_reported; is_deep = λ f p. false }

pub itself : (ps : List PlacedToken) → map (λ p. p) ps ≡ ps
itself [] = refl
itself (p ∷ ps) = ap (λ qs. p ∷ qs) (itself ps)

abbrev pub Exact : {A : Type 0} → (GrammarToken → Bool) → (List PlacedToken → A → Type 0) → Parser A → Type 0
Exact = theory.Exact manner

abbrev pub Starts : {A : Type 0} → (GrammarToken → Bool) → (List PlacedToken → A → Type 0) → Type 0
Starts = theory.Starts manner

abbrev pub Steady : {A : Type 0} → (List PlacedToken → A → Type 0) → Parser A → Type 0
Steady L r = steady.Steady manner L r r

pub token_exact : {A : Type 0} {stops : GrammarToken → Bool} (sign : ℕ → GrammarToken → Option A)
    → Exact stops (one sign) (one_from sign)
token_exact sign = one_exact sign (λ p. sign p.at p.token) (λ p. refl)

pub token_starts : {A : Type 0} {test : GrammarToken → Bool} {sign : ℕ → GrammarToken → Option A}
    → ((at : ℕ) (t : GrammarToken) (a : A) → sign at t ≡ Some a → test t ≡ true) → Starts test (one sign)
token_starts {sign = sign} h = one_starts (λ p. sign p.at p.token) (λ p. h p.at p.token)

pub token_steady : {A : Type 0} (sign : ℕ → GrammarToken → Option A) (t : GrammarToken) (a : A) → sign 0 t ≡ Some a
    → Steady (one sign) (one_from sign)
token_steady sign t a word = one_steady sign (λ p. sign p.at p.token) (λ p. refl) (record { at = 0; token = t }) a word
