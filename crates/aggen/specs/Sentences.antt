-- The meaning of parsing a sentence: its tree, and the meaning of a fault for it. All of this is this
-- project's.
use Rattle.std.specs.Prelude.{◌≢◌, ℕ, List}
use Rattle.ag_grammar.specs.grammars.AttributeGrammar.{Grammar}
use Rattle.ag_grammar.specs.grammars.Tree.{Tree, max_depth, max_nodes}
use Rattle.ag_grammar.specs.grammars.Yield.{Lexeme}
use Rattle.ag_scan.specs.Tokens.{Token, AreTokensOf, IsRefused}
use Rattle.ag_scan.specs.Words.{vocabulary_of}
use Rattle.ag_scan.specs.declared.fault.ScanFault.{ScanFault}
use Rattle.ag_scan.specs.declared.fault.ScanFault.TheVariants as scan
use Rattle.llparse.specs.sentence.Sentences.{IsTreeWith, IsUnexpectedAt, LeavesOnlyDeeper, LeavesOnlyLarger, words_of}
use Rattle.llparse.specs.declared.sentence.parse_fault.ParseFault.{ParseFault}
use Rattle.llparse.specs.declared.sentence.parse_fault.ParseFault.TheVariants as parse
use Rattle.ag_fault.specs.declared.fault.Fault.{Fault}
use Rattle.ag_fault.specs.declared.fault.Fault.TheVariants as fault

-- a derivation tree of a sentence: its yield is the sentence's tokens, each the longest one at its offset
pub record IsTreeOfSentence (g : Grammar) (sentence : List ℕ) (t : Tree) : Type 0 where
  pub tokens : List Token
  pub cut : AreTokensOf (vocabulary_of g) sentence tokens
  pub tree : IsTreeWith g (words_of tokens) t

-- the sentence has no derivation tree
abbrev pub HasNoTree : Grammar → List ℕ → Type 0
HasNoTree g sentence = (t : Tree) → IsTreeOfSentence g sentence t → ⊥

-- S1 to S4: the sentence can't be cut into tokens, for this reason, and so has no tree; NoMemory is not S
pub record IsScanFaultOf (g : Grammar) (sentence : List ℕ) (f : ScanFault) : Type 0 where
  pub reason : IsRefused (vocabulary_of g) sentence f
  pub of_sentence : f ≢ scan.NoMemory
  pub none : HasNoTree g sentence

-- P1: the sentence can be cut into tokens, but has no tree, and this shows at the offset
pub record HasNoTreeFrom (g : Grammar) (sentence : List ℕ) (at : ℕ) : Type 0 where
  pub tokens : List Token
  pub cut : AreTokensOf (vocabulary_of g) sentence tokens
  pub offset : IsUnexpectedAt g tokens at
  pub none : HasNoTree g sentence

-- P2 and P3: the sentence can be cut into tokens, and `Leaves` holds of the words of these tokens. (A word is a literal or a
-- class, with its text.) `Leaves` is one of the two properties in `IsParseFaultOf`: the words leave only trees beyond a limit.
pub record LeavesOnlyTrees (g : Grammar) (sentence : List ℕ) (Leaves : List Lexeme → Type 0) : Type 0 where
  pub tokens : List Token
  pub cut : AreTokensOf (vocabulary_of g) sentence tokens
  pub beyond : Leaves (words_of tokens)

-- the meaning of P1 to P3: there is no tree (P1), or only trees beyond a limit; a device failure and NoMemory are not P
abbrev pub IsParseFaultOf : Grammar → List ℕ → ParseFault → Type 0
IsParseFaultOf g sentence (parse.Unexpected at) = HasNoTreeFrom g sentence at
IsParseFaultOf g sentence parse.TooDeep = LeavesOnlyTrees g sentence (LeavesOnlyDeeper max_depth g)
IsParseFaultOf g sentence parse.TooManyNodes = LeavesOnlyTrees g sentence (LeavesOnlyLarger max_nodes g)
IsParseFaultOf g sentence parse.Device = ⊥
IsParseFaultOf g sentence parse.NoMemory = ⊥

-- the meaning of a fault of `parse_tree`: S and P are true of the sentence; a device failure and NoMemory have no meaning; no
-- other fault is possible
abbrev pub IsSentenceFault : Grammar → List ℕ → Fault → Type 0
IsSentenceFault g sentence (fault.Scan f) = IsScanFaultOf g sentence f
IsSentenceFault g sentence (fault.Parse f) = IsParseFaultOf g sentence f
IsSentenceFault g sentence fault.Device = Unit {0}
IsSentenceFault g sentence fault.NoMemory = Unit {0}
IsSentenceFault g sentence _ = ⊥

-- a fault of the parser (P1 to P3)
abbrev pub IsParseFault : Fault → Type 0
IsParseFault (fault.Parse f) = Unit {0}
IsParseFault _ = ⊥

-- a fault of the scanner (S1 to S4)
abbrev pub IsScanFault : Fault → Type 0
IsScanFault (fault.Scan f) = Unit {0}
IsScanFault _ = ⊥
