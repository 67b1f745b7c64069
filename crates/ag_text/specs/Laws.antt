-- Statements of the laws of the grammar language.
use Rattle.std.specs.Prelude.{◌≡◌, ◌≢◌, ◌↔◌, List, [], ◌∷◌, ℕ, Result, Ok, Err}
use Rattle.ag_tokens.specs.Ending as ending
use Rattle.ag_tokens.specs.PlacedToken.{PlacedToken, Input}
use Rattle.ag_grammar.specs.declared.raw.RawGrammar.{RawGrammar}
use Rattle.ag_text.specs.Answers.{AreFaultsOf, IsRead}
use Rattle.ag_text.specs.Grammar.{ReadsAsGrammar}
use Rattle.ag_text.specs.Offsets.{IsFirstWrong}
use Rattle.ag_text.specs.Reading.{grammar_of}
use Rattle.ag_text.specs.declared.fault.TextFault.{TextFault}
use Rattle.ag_text.specs.declared.fault.TextFault.TheVariants as fault
use Rattle.ag_text.specs.declared.stop.Stop.TheVariants.{WrongAt}
use Rattle.ag_text.specs.Syntax.{IsGrammar}

-- The reading function of grammars (`grammar_of`) accepts the tokens of a text, and returns a grammar, if and only if
-- the syntax relates the tokens to this grammar.
abbrev pub ReadingAgrees : Type 0
ReadingAgrees = (at : ℕ) (placed : List PlacedToken) (raw : RawGrammar)
    → (grammar_of (record { left = placed; ending = ending.EndsAt at }) ≡ Ok
    (raw, record { left = []; ending = ending.EndsAt at })) ↔ IsGrammar placed raw

-- Outside of expressions, the reading function of grammars rejects tokens at the first one with which no grammar continues, or
-- where the tokens end. They end because the text ends and they are not a grammar, or because no token begins there, or because
-- the token there has a number or place above its limit.
abbrev pub RefusesAtTheFirst : Type 0
RefusesAtTheFirst = (i : Input) (at : ℕ) → grammar_of i ≡ Err (WrongAt at) → IsFirstWrong i at

-- A text reads as at most one grammar.
abbrev pub OneGrammar : Type 0
OneGrammar = (text : List ℕ) (left right : RawGrammar) → ReadsAsGrammar text left → ReadsAsGrammar text right → left ≡ right

-- The list of all faults of a text is empty if and only if the text reads as a grammar.
abbrev pub NoFaultsOfGrammars : Type 0
NoFaultsOfGrammars = (text : List ℕ) (faults : List TextFault) → AreFaultsOf text faults
    → (faults ≡ []) ↔ ((raw : RawGrammar) × ReadsAsGrammar text raw)

-- the list is empty if the result is a grammar, and else begins with the fault
abbrev pub BeginsWith : Result RawGrammar TextFault → List TextFault → Type 0
BeginsWith (Ok raw) faults = faults ≡ []
BeginsWith (Err f) faults = (more : List TextFault) × (faults ≡ f ∷ more)

-- The list of all faults of a text begins with the fault of parsing the text as a grammar, if this has a fault; else it is empty.
abbrev pub HeadIsFirst : Type 0
HeadIsFirst = (text : List ℕ) (answer : Result RawGrammar TextFault) (faults : List TextFault)
    → IsRead text answer → answer ≢ Err fault.NoMemory → AreFaultsOf text faults → BeginsWith answer faults

-- A text has one list of all faults.
abbrev pub OneListOfFaults : Type 0
OneListOfFaults = (text : List ℕ) (left right : List TextFault) → AreFaultsOf text left → AreFaultsOf text right → left ≡ right
