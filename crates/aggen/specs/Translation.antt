-- The definition of a translation: the one tree of a sentence, the only values that meet all its equations, the files in which
-- they are stored, and the text that is written (Knuth 1968). The form of the statement, the files and the limits are this
-- project's. In this file g is a grammar, a and b are the contents of the two devices after the call, and `honest_a` and
-- `honest_b` say whether these devices are honest. `content` and `honest_tree` are those of a tree's own device. `IsTree` is the
-- property that makes a tree one of the input.
use Rattle.std.specs.Prelude.{ℕ, zero, suc, ◌≡◌, ◌*◌, Bool, List, ◌++◌, Option}
use Rattle.std.specs.Io.KnownBytes.{Appends}
use Rattle.ag_value.specs.declared.value.Value.{Value, Text}
use Rattle.ag_grammar.specs.grammars.AttributeGrammar.{Grammar}
use Rattle.ag_grammar.specs.grammars.Counts.{rules_of}
use Rattle.ag_grammar.specs.grammars.Passes.{Passes}
use Rattle.ag_grammar.specs.grammars.Solution.{AnyRule, IsTranslation, Solves, Valuation}
use Rattle.ag_grammar.specs.grammars.Tree.{Tree, IsTreeOf, IsWithinLimits, max_depth, max_nodes, node_count}
use Rattle.treefile.specs.records.FirstFile.{IsFirstFile}
use Rattle.agoutput.specs.Writing.{AppendsBeginning}
use Rattle.passrun.specs.declared.last.Last.{Last}
use Rattle.passrun.specs.Rounds.{LeavesSolution, last_content, other_content}
use Rattle.roottext.specs.Roots.{IsNoText, IsWellText}
use Rattle.treefile.specs.devices.Device.{WhenHonest}
use Rattle.treefile.specs.records.TreeFile.{version_two}
use Rattle.aggen.specs.declared.translations.report.Report.{Report}

-- t is the only tree with the property `IsTree`, and it is within the limits.
pub record IsOneTree (IsTree : Tree → Type 0) (t : Tree) : Type 0 where
  pub is_tree : IsTree t
  pub only : (s : Tree) → IsTree s → s ≡ t
  pub within : IsWithinLimits max_depth max_nodes t

-- A report is true of a tree and a number of passes: it has this number and that of the tree's nodes. It counts one evaluation
-- for each rule at each node, and nodes times passes both for the records read and for the records written.
pub record IsReport (g : Grammar) (passes : ℕ) (t : Tree) (report : Report) : Type 0 where
  pub nodes : report.nodes ≡ node_count t
  pub passes_are : report.passes ≡ passes
  pub evals : report.evals ≡ rules_of g t
  pub read : report.read ≡ passes * node_count t
  pub written : report.written ≡ passes * node_count t

-- The translation of a tree was written: the last two tree files (`last`, `previous`) have its solution, the bytes that were
-- added to the output are the text of its root, and the report is true. m is the assignment of passes, and `passes` their number.
-- `old` and `new` are the output's bytes before and after the call, if a contract can name them.
pub record IsTranslated (g : Grammar) (m : Passes) (passes : ℕ) (t : Tree) (last previous : List ℕ) (old new : Option (List ℕ))
    (report : Report) : Type 0 where
  pub values : Valuation
  pub leaves : LeavesSolution g m passes t values last previous
  pub text : List ℕ
  pub root : IsTranslation g values (Text text)
  pub output : Appends old new text
  pub report_is : IsReport g passes t report

-- The translation theorem: there is exactly one tree; the values in the last tree file meet every equation at every node; no
-- other values meet them all; and the bytes written are the root's text. `IsTree` defines the trees of the input, and `ArePasses`
-- the assignment of the passes and their number. If a device is not honest, only the tree and the plan are claimed.
pub record Translates (IsTree : Tree → Type 0) (ArePasses : Passes → ℕ → Type 0) (g : Grammar) (honest_a honest_b : Bool)
    (a b : List ℕ) (old new : Option (List ℕ)) (report : Report) : Type 0 where
  pub tree : Tree
  pub one : IsOneTree IsTree tree
  pub assignment : Passes
  pub passes : ℕ
  pub plan : ArePasses assignment passes
  pub translated : WhenHonest honest_a
      (WhenHonest honest_b
      (IsTranslated g assignment passes tree (last_content report.last a b) (other_content report.last a b) old new report))

-- O1: there is one tree, and its translation is `value`, which is not a text.
pub record HasNoText (IsTree : Tree → Type 0) (g : Grammar) (value : Value) : Type 0 where
  pub tree : Tree
  pub one : IsOneTree IsTree tree
  pub values : Valuation
  pub solves : Solves AnyRule g tree values
  pub root : IsTranslation g values value
  pub no_text : IsNoText value

-- O2: there is one tree, and a prefix of its translation was written.
pub record BeginsTranslation (IsTree : Tree → Type 0) (g : Grammar) (old new : Option (List ℕ)) : Type 0 where
  pub tree : Tree
  pub one : IsOneTree IsTree tree
  pub values : Valuation
  pub solves : Solves AnyRule g tree values
  pub prefix : List ℕ
  pub rest : List ℕ
  pub root : IsTranslation g values (Text (prefix ++ rest))
  pub output : Appends old new prefix

-- Ok, whatever the devices return: some text was written. The text is UTF-8 and not too long for a value.
pub record WritesText (old new : Option (List ℕ)) : Type 0 where
  pub text : List ℕ
  pub well : IsWellText text
  pub output : Appends old new text

-- O2, on any devices: a prefix of some text was written. The whole text is UTF-8 and not too long for a value.
pub record BeginsText (old new : Option (List ℕ)) : Type 0 where
  pub text : List ℕ
  pub well : IsWellText text
  pub beginning : AppendsBeginning old new text

-- A content is the file of pass 0 of a tree of the grammar.
pub record IsTreeInFile (g : Grammar) (content : List ℕ) (t : Tree) : Type 0 where
  pub tree : IsTreeOf g t
  pub file : IsFirstFile version_two g t content

-- The file of the pass before the last, if pass 1 read the tree from a device of its own. After at most one pass it is the
-- content of that device (`tree`). After more it is the content of the one of a and b that does not have the last file.
abbrev pub before_last : (passes : ℕ) → Last → (tree a b : List ℕ) → List ℕ
before_last zero last tree a b = tree
before_last (suc zero) last tree a b = tree
before_last (suc (suc k)) last tree a b = other_content last a b

-- The content is the file of pass 0 of exactly one tree, and this tree's translation was written.
pub record IsEvaluated (g : Grammar) (m : Passes) (passes : ℕ) (content a b : List ℕ) (old new : Option (List ℕ))
    (report : Report) : Type 0 where
  pub tree : Tree
  pub one : IsOneTree (IsTreeInFile g content) tree
  pub translated : IsTranslated g m passes tree (last_content report.last a b)
      (before_last passes report.last content a b) old new report

-- The translation theorem for the file of a tree: the content is the file of pass 0 of one tree, and the theorem holds of it.
pub record Evaluates (ArePasses : Passes → ℕ → Type 0) (g : Grammar) (honest_tree honest_a honest_b : Bool) (content a b : List ℕ)
    (old new : Option (List ℕ)) (report : Report) : Type 0 where
  pub assignment : Passes
  pub passes : ℕ
  pub plan : ArePasses assignment passes
  pub evaluated : WhenHonest honest_tree
      (WhenHonest honest_a (WhenHonest honest_b (IsEvaluated g assignment passes content a b old new report)))
