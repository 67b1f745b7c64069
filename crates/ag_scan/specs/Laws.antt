-- Statements of the laws of sentences.
use Rattle.std.specs.Prelude.{◌≡◌, List, ℕ, Result, Ok, Err}
use Rattle.ag_grammar.specs.grammars.Accepted.{IsAccepted}
use Rattle.ag_grammar.specs.grammars.AttributeGrammar.{Grammar}
use Rattle.ag_scan.specs.Tokens.{AreTokensOf, IsRefused}
use Rattle.ag_scan.specs.Words.{Vocabulary, vocabulary_of}
use Rattle.ag_scan.specs.declared.fault.ScanFault.{ScanFault}
use Rattle.ag_scan.specs.declared.fault.ScanFault.TheVariants as fault
use Rattle.ag_scan.specs.Tokens.{Token}

-- An answer to a sentence: its tokens, or the reason why it has none. `NoMemory` is not an answer.
abbrev pub IsAnswer : Vocabulary → List ℕ → Result (List Token) ScanFault → Type 0
IsAnswer v sentence (Ok ts) = AreTokensOf v sentence ts
IsAnswer v sentence (Err fault.NoMemory) = ⊥
IsAnswer v sentence (Err fault.TooLong) = IsRefused v sentence fault.TooLong
IsAnswer v sentence (Err (fault.BadUtf8 at)) = IsRefused v sentence (fault.BadUtf8 at)
IsAnswer v sentence (Err (fault.NoToken at)) = IsRefused v sentence (fault.NoToken at)
IsAnswer v sentence (Err (fault.LongToken at)) = IsRefused v sentence (fault.LongToken at)

-- A sentence has at most one answer over an accepted grammar: one list of tokens or one fault.
abbrev pub AtMostOneAnswer : Type 0
AtMostOneAnswer = (g : Grammar) → IsAccepted g → (sentence : List ℕ) (q r : Result (List Token) ScanFault)
    → IsAnswer (vocabulary_of g) sentence q → IsAnswer (vocabulary_of g) sentence r → q ≡ r

-- Each sentence has an answer over an accepted grammar.
abbrev pub AnAnswer : Type 0
AnAnswer = (g : Grammar) → IsAccepted g → (sentence : List ℕ)
    → (q : Result (List Token) ScanFault) × IsAnswer (vocabulary_of g) sentence q
