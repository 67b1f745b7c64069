-- The effects of evaluating the tree of a file: the files on the devices, and the meaning of the faults. In this file g is a
-- grammar and m an assignment of passes. `content` is the content of the tree's device, a and b are the contents of the other two
-- devices after the call, and `honest_tree` (ht), `honest_a` (ha) and `honest_b` (hb) say whether these devices are honest. `old`
-- and `new` are the output's bytes before and after the call, if a contract can name them. All of this is this project's.
use Rattle.std.specs.Prelude.{ℕ, ◌≤◌, List, Bool, Option}
use Rattle.ag_grammar.specs.grammars.AttributeGrammar.{Grammar}
use Rattle.ag_grammar.specs.grammars.Passes.{Passes}
use Rattle.ag_grammar.specs.grammars.Solution.{Valuation}
use Rattle.ag_grammar.specs.grammars.Tree.{Tree, depth_of, max_depth, max_nodes, node_count}
use Rattle.treefile.specs.records.FirstFile.{AreFromOne}
use Rattle.passassign.specs.Rows.{IsGreatest, passes_of}
use Rattle.passcode.specs.Rows.{Lists}
use Rattle.passcode.specs.Settings.{EvaluationPlan, setting_of}
use Rattle.passrun.specs.Damage.{Shows, source}
use Rattle.pass_rows.specs.declared.run_fault.RunFault.{RunFault}
use Rattle.pass_rows.specs.declared.run_fault.RunFault.TheVariants as run
use Rattle.passrun.specs.Rounds.{LeavesSolution, last_content}
use Rattle.treefile.specs.devices.Device.{WhenHonest}
use Rattle.aggen.specs.Building.{IsLeastPlan}
use Rattle.aggen.specs.PassFaults.{IsAboutFile}
use Rattle.aggen.specs.Translating.{ArePassesOf}
use Rattle.aggen.specs.Translation.{BeginsTranslation, Evaluates, HasNoText, IsOneTree, IsReport, IsTreeInFile, before_last}
use Rattle.ag_fault.specs.declared.fault.Fault.{Fault}
use Rattle.ag_fault.specs.declared.fault.Fault.TheVariants as fault
use Rattle.aggen.specs.declared.translations.report.Report.{Report}

-- the translation theorem for the file of a tree: its passes are those of the least plan
abbrev pub EvaluatesTree : Grammar → (honest_tree honest_a honest_b : Bool) → (content a b : List ℕ) → (old new : Option (List ℕ))
    → Report → Type 0
EvaluatesTree g = Evaluates (ArePassesOf g) g

-- `content` is the file of pass 0 of exactly one tree, and all passes ran over this tree: the last two tree files have its
-- solution, and the report is true.
pub record AreLeftOfTree (g : Grammar) (m : Passes) (content a b : List ℕ) (report : Report) : Type 0 where
  pub tree : Tree
  pub one : IsOneTree (IsTreeInFile g content) tree
  pub values : Valuation
  pub leaves : LeavesSolution g m report.passes tree values (last_content report.last a b)
      (before_last report.passes report.last content a b)
  pub report_is : IsReport g report.passes tree report

-- The report has the greatest pass of the assignment `rows`. If the devices are honest, all passes of this assignment ran over
-- the one tree of `content`.
pub record LeavesFilesOfTree (g : Grammar) (rows : List (List ℕ)) (honest_tree honest_a honest_b : Bool) (content a b : List ℕ)
    (report : Report) : Type 0 where
  pub greatest : IsGreatest report.passes rows
  pub left : WhenHonest honest_tree
      (WhenHonest honest_a (WhenHonest honest_b (AreLeftOfTree g (passes_of rows) content a b report)))

-- If the devices are honest, all passes of a least plan ran over the one tree of `content`, and the devices have its last two
-- files.
pub record LeavesLastFilesOfTree (g : Grammar) (honest_tree honest_a honest_b : Bool) (content a b : List ℕ) : Type 0 where
  pub rows : List (List ℕ)
  pub code : Lists
  pub least : IsLeastPlan g rows code
  pub report : Report
  pub files : LeavesFilesOfTree g rows honest_tree honest_a honest_b content a b report

-- f is the first damage or exceeded limit that pass 1 meets in the content, which it reads as the file of pass 0 of a tree. This
-- holds of pass 1 with some rows of passes from 1 on, and any code, whether they are a plan or not. With all such rows pass 1
-- meets the same f, since in a file of pass 0 no attribute but the `lex` of tokens has a value.
abbrev pub ShowsInFile : Grammar → List ℕ → RunFault → Type 0
ShowsInFile g content f =
    (plan : EvaluationPlan) × AreFromOne (passes_of plan.assignment) × Shows (source (setting_of g plan 1)) content f

-- R1: the content is not the file of pass 0 of any tree of the grammar, and this shows at the offset. P2: it is not that of any
-- tree within the limit of levels, and this limit is exceeded before damage is met. P3: the same with the limit of nodes. D1 and
-- NoMemory say nothing of the content.
abbrev pub IsTreeFileFault : Grammar → List ℕ → RunFault → Type 0
IsTreeFileFault g content (run.Damaged at) = ((t : Tree) → IsTreeInFile g content t → ⊥) × ShowsInFile g content (run.Damaged at)
IsTreeFileFault g content run.TooDeep =
    ((t : Tree) → IsTreeInFile g content t → depth_of t ≤ max_depth → ⊥) × ShowsInFile g content run.TooDeep
IsTreeFileFault g content run.TooManyNodes =
    ((t : Tree) → IsTreeInFile g content t → node_count t ≤ max_nodes → ⊥) × ShowsInFile g content run.TooManyNodes
IsTreeFileFault g content run.Device = Unit {0}
IsTreeFileFault g content run.NoMemory = Unit {0}

-- The meaning of a fault of `run_tree`, before the text of the root is read: if the devices are honest, R1, P2 and P3 are true of
-- the content. A device failure and NoMemory have no meaning, and no other fault is possible.
abbrev pub IsTreeFaultBeforeText : Grammar → (honest_tree honest_a honest_b : Bool) → List ℕ → Fault → Type 0
IsTreeFaultBeforeText g ht ha hb content (fault.Run f) =
    IsAboutFile f × WhenHonest ht (WhenHonest ha (WhenHonest hb (IsTreeFileFault g content f)))
IsTreeFaultBeforeText g ht ha hb content fault.Device = Unit {0}
IsTreeFaultBeforeText g ht ha hb content fault.NoMemory = Unit {0}
IsTreeFaultBeforeText g ht ha hb content _ = ⊥

-- The meaning of a fault of `evaluate_tree`. If the devices are honest, R1 (with its offset), P2 and P3 are true of the content
-- of the tree's file, and O1 of its one tree; B1 and B2 are impossible; and after O2 a prefix of the translation was written. A
-- device failure and NoMemory have no meaning, and no other fault is possible.
abbrev pub IsEvaluationFault : Grammar → (honest_tree honest_a honest_b : Bool) → List ℕ → (old new : Option (List ℕ)) → Fault
    → Type 0
IsEvaluationFault g ht ha hb content old new (fault.Run f) =
    IsAboutFile f × WhenHonest ht (WhenHonest ha (WhenHonest hb (IsTreeFileFault g content f)))
IsEvaluationFault g ht ha hb content old new (fault.NoText x) =
    WhenHonest ht (WhenHonest ha (WhenHonest hb (HasNoText (IsTreeInFile g content) g x)))
IsEvaluationFault g ht ha hb content old new fault.NotATreeFile = WhenHonest ht (WhenHonest ha (WhenHonest hb ⊥))
IsEvaluationFault g ht ha hb content old new (fault.Damaged at) = WhenHonest ht (WhenHonest ha (WhenHonest hb ⊥))
IsEvaluationFault g ht ha hb content old new fault.Write =
    WhenHonest ht (WhenHonest ha (WhenHonest hb (BeginsTranslation (IsTreeInFile g content) g old new)))
IsEvaluationFault g ht ha hb content old new fault.Device = Unit {0}
IsEvaluationFault g ht ha hb content old new fault.NoMemory = Unit {0}
IsEvaluationFault g ht ha hb content old new _ = ⊥
