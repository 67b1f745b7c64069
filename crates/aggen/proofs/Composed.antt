-- A sentence is translated: its files are those of the one solution, and the text that is written is the
-- root's.
use Rattle.aggen.proofs.Common
use Common.{◌≡◌, ℕ, ◌-◌, ◌<◌, ◌≤◌, Bool, true, List, length, Option, Result, Ok, Err, refl, arith, Text, Value, IsAccepted}
use Common.{Grammar, IsLegal}
use Common.{Passes, IsTranslation, Valuation, IsWithinLimits, Tree, IsTreeOf, max_depth, max_nodes, node_count, IsGreatest}
use Common.{passes_of, Lists, IsPlan, WhenHonest, texts_are_given, IsFileOfTree, IsFirstFile, version_two, IsLeastPlan}
use Common.{IsTreeOfSentence, AppendsBeginning, Appends, Passed, Report, RunFault, OutFault, out_fault_of, run_fault_of}
use Common.{last_content, IsRootText, MatchesRoot, HasRunAll, IsLastPass, IsRunFault, setting_of, run_is_the_solution}
use Common.{greatest_is_last}
use Common.run
use Common.out
use Rattle.std.proofs.lemmas.List.{length-append, length-map}
use Rattle.std.proofs.lemmas.Option.{slice_get-get_or, slice_get_within}
use Rattle.ag_grammar.proofs.grammars.Counting.{passes_have_all_rules}
use Rattle.treefile.specs.devices.Several.{BothPersist}
use Rattle.passrun.specs.Rounds.{LeavesSolution}
use Rattle.roottext.specs.Roots.{IsNoText}
use Rattle.aggen.specs.Translation.{BeginsTranslation, HasNoText, IsOneTree}
use Rattle.aggen.specs.Translating.{AreLeft, IsFaultBeforeText, IsTranslationFault, LeavesFiles, LeavesLastFiles}
use Rattle.aggen.specs.Translating.{TranslatesSentence}

-- the start symbol's `out` has a pass
pub some_pass : {g : Grammar} {m : Passes} {last : ℕ} → IsAccepted g → IsLegal g m → IsLastPass last m → 1 ≤ last
some_pass {g} {m} accepted legal is =
    let start = accepted.start in
    let out = slice_get_within start.symbol.syn start.out.0 _ start.out.1 in
    let whole = simp (length-append, length-map) at (rw start.declared at (legal.whole g.start)) in
    let some : 0 < length (m g.start) = omega arith in
    let first = slice_get-get_or (m g.start) 0 0 some in
    omega (arith, legal.positive g.start 0 _ first, is g.start 0 _ first)

-- so a plan has a last pass, which is not before pass 1
pub last_pass : {g : Grammar} {rows : List (List ℕ)} {code : Lists} → IsAccepted g → IsPlan g rows code
    → (n : ℕ) × IsGreatest n rows × (1 ≤ n)
last_pass {rows} accepted plan =
    let lists = plan.shape.lists in
    (lists.pass_count, lists.greatest, some_pass accepted plan.legal (greatest_is_last lists.pass_count rows lists.greatest))

-- the tree's file of pass 0 has the texts of its tokens
pub in_first_file : {g : Grammar} {m : Passes} {t : Tree} {start : List ℕ} → IsLegal g m → IsFirstFile version_two g t start
    → IsFileOfTree version_two g m 0 t (texts_are_given g t).0 start
in_first_file {g} {m} {t} legal file = file m (texts_are_given g t).0 legal.positive (texts_are_given g t).1

module _ {g : Grammar} {rows : List (List ℕ)} {code : Lists} (accepted : IsAccepted g) (plan : IsPlan g rows code) where
  -- all passes over the tree of a sentence leave its solution
  pub are_left : {t : Tree} {start a b : List ℕ} {report : Report} {passed : Passed} → IsGreatest report.passes rows
      → IsTreeOf g t → IsFirstFile version_two g t start
      → HasRunAll g (passes_of rows) 0 report.passes start report.last a b report.evals passed → report.nodes ≡ node_count t
      → report.read ≡ passed.read → report.written ≡ passed.written → AreLeft g (passes_of rows) t a b report
  are_left {t} {report} greatest tree file all nodes read written =
      let m = passes_of rows in
      let end : IsLastPass report.passes m = greatest_is_last report.passes rows greatest in
      let texts = (texts_are_given g t).0 in
      let first = in_first_file plan.legal file in
      let run = all.runs t texts tree first in
      let counted = all.counts t texts tree first in
      let count : report.passes - 0 ≡ report.passes = omega arith in
      record {
        values = run.values;
        leaves = record {
          solution = run_is_the_solution g m t texts run.values report.passes accepted plan.legal end tree run.ran;
          file = run.file;
          other = λ k e. run.other k (some_pass accepted plan.legal end) e;
        };
        report_is = record {
          nodes = nodes;
          passes_are = refl;
          evals = cc (counted.evals_are, passes_have_all_rules g m t report.passes accepted plan.legal end);
          read = cc;
          written = cc;
        };
      }

  -- no pass refuses a file of the tree of a sentence
  pub never_refused : {t : Tree} {start : List ℕ} (sentence : List ℕ) (f : RunFault) (ha hb : Bool) → IsTreeOf g t
      → IsWithinLimits max_depth max_nodes t → WhenHonest ha (IsFirstFile version_two g t start)
      → WhenHonest ha (WhenHonest hb (IsRunFault (setting_of g (record { assignment = rows; code = code }) 1) start f))
      → IsFaultBeforeText g sentence ha hb (run_fault_of f)
  never_refused sentence run.Device ha hb tree within file exact = tt
  never_refused sentence run.NoMemory ha hb tree within file exact = tt
  never_refused sentence (run.Damaged at) ha hb tree within file exact =
      (tt, λ x y. (exact x y).none _ _ tree (in_first_file plan.legal (file x)))
  never_refused sentence f ha hb tree within file exact =
      (tt, λ x y. (exact x y).none _ _ _ tree within (in_first_file plan.legal (file x)))

-- the one tree of the input, and its solution in the files of the last two passes
module _ {IsTree : Tree → Type 0} {g : Grammar} {m : Passes} {passes : ℕ} {t : Tree} {values : Valuation} {last previous : List ℕ}
    (one : IsOneTree IsTree t) (leaves : LeavesSolution g m passes t values last previous) where
  -- a prefix of the root's text was written
  pub begins_with : {old new : Option (List ℕ)} {text : List ℕ} → IsTranslation g values (Text text)
      → AppendsBeginning old new text → BeginsTranslation IsTree g old new
  begins_with root prefix = record {
    tree = t;
    one = one;
    values = values;
    solves = leaves.solution.solves;
    prefix = prefix.prefix;
    rest = prefix.rest;
    root = rw prefix.cut at root;
    output = prefix.put;
  }

  -- the root's value is not a text
  pub no_text : {value : Value} → IsTranslation g values value × IsNoText value → HasNoText IsTree g value
  no_text root = record {
    tree = t;
    one = one;
    values = values;
    solves = leaves.solution.solves;
    root = root.0;
    no_text = root.1;
  }

-- The root's text is read from the files that the passes left: `devices` is what this call does to the two devices.
module _ {D : Type 0} {honest : D → Bool} {failures : D → ℕ} {old_a new_a old_b new_b : D} {failed : Type 0} {g : Grammar}
    {sentence : List ℕ} {rows : List (List ℕ)} {a b : List ℕ} {report : Report}
    (devices : BothPersist honest failures old_a new_a honest failures old_b new_b failed)
    (files : LeavesFiles g sentence rows (honest old_a) (honest old_b) a b report) where
  left : WhenHonest (honest new_a) (WhenHonest (honest new_b) (AreLeft g (passes_of rows) files.tree a b report))
  left x y = files.left (devices.first.honest x) (devices.second.honest y)

  -- the files are still there
  pub last_files : {code : Lists} {a' b' : List ℕ} → IsLeastPlan g rows code → WhenHonest (honest new_a) (a' ≡ a)
      → WhenHonest (honest new_b) (b' ≡ b) → LeavesLastFiles g sentence (honest new_a) (honest new_b) a' b'
  last_files {code} least same_a same_b = record {
    rows = rows;
    code = code;
    least = least;
    report = report;
    files = record {
      tree = files.tree;
      one = files.one;
      greatest = files.greatest;
      left = λ x y. rw (same_a x, same_b y) (left x y);
    };
  }

  -- the result for the last file is true of the values that the passes have left
  root_of : (r : Result (List ℕ) OutFault)
      → WhenHonest (honest new_a) (WhenHonest (honest new_b) (MatchesRoot g rows (last_content report.last a b) r))
      → (x : honest new_a ≡ true) (y : honest new_b ≡ true) → IsRootText g (left x y).values r
  root_of r exact x y =
      exact x y report.passes files.greatest files.tree (left x y).values files.one.is_tree.tree.tree (left x y).leaves.file

  -- the text of the root was written: the sentence is translated
  pub translates : {code : Lists} {a' b' : List ℕ} {old new : Option (List ℕ)} (text : List ℕ) → IsLeastPlan g rows code
      → WhenHonest (honest new_a) (a' ≡ a) → WhenHonest (honest new_b) (b' ≡ b)
      → WhenHonest (honest new_a) (WhenHonest (honest new_b) (MatchesRoot g rows (last_content report.last a b) (Ok text)))
      → Appends old new text → TranslatesSentence g sentence (honest new_a) (honest new_b) a' b' old new report
  translates {code} text least same_a same_b exact put = record {
    tree = files.tree;
    one = files.one;
    assignment = passes_of rows;
    passes = report.passes;
    plan = record { rows = rows; code = code; least = least; same = refl; greatest = files.greatest };
    translated = λ x y. rw (same_a x, same_b y) (record {
      values = (left x y).values;
      leaves = (left x y).leaves;
      text = text;
      root = root_of (Ok text) exact x y;
      output = put;
      report_is = (left x y).report_is;
    });
  }

  -- a prefix of the root's text was written
  pub begins : {old new : Option (List ℕ)} (text : List ℕ)
      → WhenHonest (honest new_a) (WhenHonest (honest new_b) (MatchesRoot g rows (last_content report.last a b) (Ok text)))
      → AppendsBeginning old new text
      → WhenHonest (honest new_a) (WhenHonest (honest new_b) (BeginsTranslation (IsTreeOfSentence g sentence) g old new))
  begins text exact prefix x y = begins_with files.one (left x y).leaves (root_of (Ok text) exact x y) prefix

  -- the meaning of a fault of reading the root's text
  pub root_refused : (old new : Option (List ℕ)) (f : OutFault)
      → WhenHonest (honest new_a) (WhenHonest (honest new_b) (MatchesRoot g rows (last_content report.last a b) (Err f)))
      → IsTranslationFault g sentence (honest new_a) (honest new_b) old new (out_fault_of f)
  root_refused old new out.Device exact = tt
  root_refused old new out.NoMemory exact = tt
  root_refused old new (out.NoText value) exact =
      λ x y. no_text files.one (left x y).leaves (root_of (Err (out.NoText value)) exact x y)
  root_refused old new f exact = λ x y. root_of (Err f) exact x y
