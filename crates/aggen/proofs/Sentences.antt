-- The meaning of a fault of scanning, and of parsing, for the sentence.
use Rattle.aggen.proofs.Common
use Common.{◌≡◌, ℕ, List, Result, Ok, Err, refl, IsErrOf, IsAccepted, Grammar, Tree, max_depth, max_nodes, ScanFault}
use Common.{HasNoTree, IsTreeOfSentence, IsSentenceFault, parse_fault_of, scan_fault_of}
use Common.scan
use Rattle.ag_scan.specs.Laws.{IsAnswer}
use Rattle.ag_scan.specs.Tokens.{Token, AreTokensOf, IsRefused}
use Rattle.ag_scan.specs.Words.{vocabulary_of}
use Rattle.ag_scan.proofs.OneAnswer.{at_most_one}
use Rattle.llparse.specs.sentence.Sentences.{IsTreeWith, IsUnexpectedAt, LeavesOnlyDeeper, LeavesOnlyLarger, words_of}
use Rattle.llparse.specs.table.Tables.{Choices, FitsGrammar}
use Rattle.llparse.specs.declared.sentence.parse_fault.ParseFault.{ParseFault}
use Rattle.llparse.specs.declared.sentence.parse_fault.ParseFault.TheVariants as parse
use Rattle.llparse.proofs.steps.Steps.{one_parse}

-- the result of parsing with a fault
abbrev failed : ParseFault → Result ℕ ParseFault
failed f = Err f

module _ {g : Grammar} (accepted : IsAccepted g) where
  -- a sentence has one list of tokens
  same_tokens : {sentence : List ℕ} {ts us : List Token} → AreTokensOf (vocabulary_of g) sentence ts
      → AreTokensOf (vocabulary_of g) sentence us → us ≡ ts
  same_tokens {sentence} {ts} {us} cut other =
      let same : Ok us ≡ Ok ts = at_most_one g accepted sentence (Ok us) (Ok ts) other cut in cc

  -- a tree of a sentence is a tree of the sentence's tokens
  pub with_tokens : {sentence : List ℕ} {ts : List Token} → AreTokensOf (vocabulary_of g) sentence ts → (t : Tree)
      → IsTreeOfSentence g sentence t → IsTreeWith g (words_of ts) t
  with_tokens cut t is = rw (same_tokens cut is.cut) at is.tree

  -- a sentence that is rejected by scanning cannot be cut into tokens, and so has no tree
  none_of : (sentence : List ℕ) (f : ScanFault) → IsAnswer (vocabulary_of g) sentence (Err f) → HasNoTree g sentence
  none_of sentence f is t tree =
      let same : Ok tree.tokens ≡ Err f = at_most_one g accepted sentence (Ok tree.tokens) (Err f) tree.cut is in absurd cc

  pub scan_exact : (sentence : List ℕ) (f : ScanFault) → IsRefused (vocabulary_of g) sentence f
      → IsSentenceFault g sentence (scan_fault_of f)
  scan_exact sentence scan.NoMemory is = tt
  scan_exact sentence f is = record { reason = is; of_sentence = λ e. absurd cc; none = none_of sentence f is }

  -- a sentence has at most one tree
  pub one_of : (tables : Choices) → FitsGrammar g tables → (sentence : List ℕ) (t u : Tree) → IsTreeOfSentence g sentence t
      → IsTreeOfSentence g sentence u → t ≡ u
  one_of tables fits sentence t u a b = one_parse g tables fits (words_of a.tokens) t u a.tree (with_tokens a.cut u b)

  -- the meaning of a fault of parsing for the sentence
  pub parse_exact : {sentence : List ℕ} {ts : List Token} (f : ParseFault) → AreTokensOf (vocabulary_of g) sentence ts
      → ((at : ℕ) → failed f ≡ Err (parse.Unexpected at) → IsUnexpectedAt g ts at)
      → ((at : ℕ) (t : Tree) → failed f ≡ Err (parse.Unexpected at) → IsTreeWith g (words_of ts) t → ⊥)
      → (IsErrOf (failed f) parse.TooDeep → LeavesOnlyDeeper max_depth g (words_of ts))
      → (IsErrOf (failed f) parse.TooManyNodes → LeavesOnlyLarger max_nodes g (words_of ts))
      → IsSentenceFault g sentence (parse_fault_of f)
  parse_exact {ts} (parse.Unexpected at) cut unexpected none deep large =
      record { tokens = ts; cut = cut; offset = unexpected at refl; none = λ t is. none at t refl (with_tokens cut t is) }
  parse_exact {ts} parse.TooDeep cut unexpected none deep large = record { tokens = ts; cut = cut; beyond = deep refl }
  parse_exact {ts} parse.TooManyNodes cut unexpected none deep large = record { tokens = ts; cut = cut; beyond = large refl }
  parse_exact f cut unexpected none deep large = tt
