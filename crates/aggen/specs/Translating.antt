-- The effects of translating a sentence: the files on the devices, and the meaning of the faults. In this file g is a grammar, a
-- and b are the contents of the two devices after the call, and `honest_a` (ha) and `honest_b` (hb) say whether these devices are
-- honest. `old` and `new` are the output's bytes before and after the call, if a contract can name them. All of this is this
-- project's.
use Rattle.std.specs.Prelude.{ℕ, ◌≡◌, List, Bool, Option}
use Rattle.ag_grammar.specs.grammars.AttributeGrammar.{Grammar}
use Rattle.ag_grammar.specs.grammars.Passes.{Passes}
use Rattle.ag_grammar.specs.grammars.Solution.{Valuation}
use Rattle.ag_grammar.specs.grammars.Tree.{Tree}
use Rattle.passassign.specs.Rows.{IsGreatest, passes_of}
use Rattle.passcode.specs.Rows.{Lists}
use Rattle.passrun.specs.Rounds.{LeavesSolution, last_content, other_content}
use Rattle.treefile.specs.devices.Device.{WhenHonest}
use Rattle.aggen.specs.Building.{IsLeastPlan}
use Rattle.aggen.specs.PassFaults.{IsAboutFile}
use Rattle.aggen.specs.Sentences.{IsParseFaultOf, IsScanFaultOf, IsTreeOfSentence}
use Rattle.aggen.specs.Translation.{BeginsTranslation, HasNoText, IsOneTree, IsReport, Translates}
use Rattle.ag_fault.specs.declared.fault.Fault.{Fault}
use Rattle.ag_fault.specs.declared.fault.Fault.TheVariants as fault
use Rattle.aggen.specs.declared.translations.report.Report.{Report}

-- The passes m are those of a least plan, and the number `passes` is the greatest pass of this plan.
pub record ArePassesOf (g : Grammar) (m : Passes) (passes : ℕ) : Type 0 where
  pub rows : List (List ℕ)
  pub code : Lists
  pub least : IsLeastPlan g rows code
  pub same : m ≡ passes_of rows
  pub greatest : IsGreatest passes rows

-- the translation theorem for a sentence: its trees are those of the sentence, and its passes those of the least plan
abbrev pub TranslatesSentence : Grammar → (sentence : List ℕ) → (honest_a honest_b : Bool) → (a b : List ℕ)
    → (old new : Option (List ℕ)) → Report → Type 0
TranslatesSentence g sentence = Translates (IsTreeOfSentence g sentence) (ArePassesOf g) g

-- All passes of the assignment m ran over a tree: the contents a and b are its last two tree files, with its solution, and the
-- report is true.
pub record AreLeft (g : Grammar) (m : Passes) (t : Tree) (a b : List ℕ) (report : Report) : Type 0 where
  pub values : Valuation
  pub leaves : LeavesSolution g m report.passes t values (last_content report.last a b) (other_content report.last a b)
  pub report_is : IsReport g report.passes t report

-- The sentence has one tree. If the devices are honest, all passes of an assignment ran over this tree.
pub record LeavesFiles (g : Grammar) (sentence : List ℕ) (rows : List (List ℕ)) (honest_a honest_b : Bool) (a b : List ℕ)
    (report : Report) : Type 0 where
  pub tree : Tree
  pub one : IsOneTree (IsTreeOfSentence g sentence) tree
  pub greatest : IsGreatest report.passes rows
  pub left : WhenHonest honest_a (WhenHonest honest_b (AreLeft g (passes_of rows) tree a b report))

-- The sentence has one tree. If the devices are honest, all passes of a least plan ran over this tree, and the devices
-- have its last two files.
pub record LeavesLastFiles (g : Grammar) (sentence : List ℕ) (honest_a honest_b : Bool) (a b : List ℕ) : Type 0 where
  pub rows : List (List ℕ)
  pub code : Lists
  pub least : IsLeastPlan g rows code
  pub report : Report
  pub files : LeavesFiles g sentence rows honest_a honest_b a b report

-- The meaning of a fault of `leave_files`, before the text of the root is read: S and P are true of the sentence,
-- and R1, P2 or P3 of a tree file are impossible on honest devices. A device failure and NoMemory have no meaning,
-- and no other fault is possible.
abbrev pub IsFaultBeforeText : Grammar → (sentence : List ℕ) → (honest_a honest_b : Bool) → Fault → Type 0
IsFaultBeforeText g sentence ha hb (fault.Scan f) = IsScanFaultOf g sentence f
IsFaultBeforeText g sentence ha hb (fault.Parse f) = IsParseFaultOf g sentence f
IsFaultBeforeText g sentence ha hb (fault.Run f) = IsAboutFile f × WhenHonest ha (WhenHonest hb ⊥)
IsFaultBeforeText g sentence ha hb fault.Device = Unit {0}
IsFaultBeforeText g sentence ha hb fault.NoMemory = Unit {0}
IsFaultBeforeText g sentence ha hb _ = ⊥

-- The meaning of a fault of a translation: S and P are true of the sentence. On honest devices O1 is true of the
-- sentence; after O2 a prefix of the translation was written; R1, B1, B2, and P2 and P3 of a tree file are impossible.
-- A device failure and NoMemory have no meaning. No other fault is possible.
abbrev pub IsTranslationFault : Grammar → (sentence : List ℕ) → (honest_a honest_b : Bool) → (old new : Option (List ℕ)) → Fault
    → Type 0
IsTranslationFault g sentence ha hb old new (fault.Scan f) = IsScanFaultOf g sentence f
IsTranslationFault g sentence ha hb old new (fault.Parse f) = IsParseFaultOf g sentence f
IsTranslationFault g sentence ha hb old new (fault.Run f) = IsAboutFile f × WhenHonest ha (WhenHonest hb ⊥)
IsTranslationFault g sentence ha hb old new (fault.NoText x) =
    WhenHonest ha (WhenHonest hb (HasNoText (IsTreeOfSentence g sentence) g x))
IsTranslationFault g sentence ha hb old new fault.NotATreeFile = WhenHonest ha (WhenHonest hb ⊥)
IsTranslationFault g sentence ha hb old new (fault.Damaged at) = WhenHonest ha (WhenHonest hb ⊥)
IsTranslationFault g sentence ha hb old new fault.Write =
    WhenHonest ha (WhenHonest hb (BeginsTranslation (IsTreeOfSentence g sentence) g old new))
IsTranslationFault g sentence ha hb old new fault.Device = Unit {0}
IsTranslationFault g sentence ha hb old new fault.NoMemory = Unit {0}
IsTranslationFault g sentence ha hb old new _ = ⊥

-- O1 and O2: all passes ran before
abbrev pub IsAfterPasses : Fault → Type 0
IsAfterPasses (fault.NoText x) = Unit {0}
IsAfterPasses fault.Write = Unit {0}
IsAfterPasses _ = ⊥

-- S1 to S4 and P1 to P3: the sentence is rejected
abbrev pub IsRefusedSentence : Fault → Type 0
IsRefusedSentence (fault.Scan f) = Unit {0}
IsRefusedSentence (fault.Parse f) = Unit {0}
IsRefusedSentence _ = ⊥
