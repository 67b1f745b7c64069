-- What the calls on a translator return, in the words of the translation theorem, and why they fail. All of this is this
-- project's.
use Rattle.std.specs.Prelude.{ℕ, ◌≡◌, List}
use Rattle.ag_grammar.specs.grammars.AttributeGrammar.{Grammar}
use Rattle.ag_grammar.specs.grammars.Tree.{Tree}
use Rattle.agoutput.specs.Listings.{IsPlanListing}
use Rattle.passcode.specs.Rows.{Lists}
use Rattle.treefile.specs.records.FirstFile.{IsFirstFile}
use Rattle.treefile.specs.records.TreeFile.{version_two}
use Rattle.aggen.specs.Building.{IsLeastPlan}
use Rattle.aggen.specs.Evaluating.{IsTreeFileFault}
use Rattle.aggen.specs.PassFaults.{IsAboutFile}
use Rattle.aggen.specs.Sentences.{IsParseFaultOf, IsScanFaultOf, IsTreeOfSentence}
use Rattle.aggen.specs.Translation.{HasNoText, IsOneTree, IsTreeInFile}
use Rattle.ag_fault.specs.declared.fault.Fault.{Fault}
use Rattle.ag_fault.specs.declared.fault.Fault.TheVariants as fault

-- The sentence has exactly one tree, it is within the limits, and the file is the tree file of pass 0 of this tree.
pub record IsTreeFileOf (g : Grammar) (sentence file : List ℕ) : Type 0 where
  pub tree : Tree
  pub one : IsOneTree (IsTreeOfSentence g sentence) tree
  pub is : IsFirstFile version_two g tree file

-- The text is the listing of the grammar's least plan: `rows` is its assignment of passes, and `code` its instructions.
pub record IsPlanTextOf (g : Grammar) (text : List ℕ) : Type 0 where
  pub rows : List (List ℕ)
  pub code : Lists
  pub least : IsLeastPlan g rows code
  pub listing : IsPlanListing g rows text

-- Why a sentence was not translated: S, P and O1 are true of the sentence; for NoMemory nothing is claimed; no other is possible.
abbrev pub IsTranslationRefusal : Grammar → (sentence : List ℕ) → Fault → Type 0
IsTranslationRefusal g sentence (fault.Scan f) = IsScanFaultOf g sentence f
IsTranslationRefusal g sentence (fault.Parse f) = IsParseFaultOf g sentence f
IsTranslationRefusal g sentence (fault.NoText x) = HasNoText (IsTreeOfSentence g sentence) g x
IsTranslationRefusal g sentence fault.NoMemory = Unit {0}
IsTranslationRefusal g sentence _ = ⊥

-- Why a tree file was not translated: R1, P2, P3 and O1 are true of the file. For NoMemory nothing is claimed. No other fault is
-- possible: devices in memory never cause D1.
abbrev pub IsEvaluationRefusal : Grammar → (file : List ℕ) → Fault → Type 0
IsEvaluationRefusal g file (fault.Run f) = IsAboutFile f × IsTreeFileFault g file f
IsEvaluationRefusal g file (fault.NoText x) = HasNoText (IsTreeInFile g file) g x
IsEvaluationRefusal g file fault.NoMemory = Unit {0}
IsEvaluationRefusal g file _ = ⊥

-- Why no tree file of a sentence was made: S and P are true of the sentence. For NoMemory nothing is claimed. No other fault is
-- possible.
abbrev pub IsTreeRefusal : Grammar → (sentence : List ℕ) → Fault → Type 0
IsTreeRefusal g sentence (fault.Scan f) = IsScanFaultOf g sentence f
IsTreeRefusal g sentence (fault.Parse f) = IsParseFaultOf g sentence f
IsTreeRefusal g sentence fault.NoMemory = Unit {0}
IsTreeRefusal g sentence _ = ⊥

-- memory was refused
abbrev pub IsNoMemory : Fault → Type 0
IsNoMemory e = e ≡ fault.NoMemory
