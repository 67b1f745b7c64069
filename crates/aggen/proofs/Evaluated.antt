-- The tree of a file is evaluated: the files are those of its one solution, and a fault is true of its
-- content.
use Rattle.aggen.proofs.Common
use Common.{◌≡◌, ℕ, suc, ◌-◌, ◌+◌, Bool, List, Option, Result, Ok, Err, refl, ◌∙◌, true, arith, Appends, IsAccepted, Grammar}
use Common.{IsLastPass, Tree, depth_of, node_count, run_is_the_solution, WhenHonest, version_two_usable}
use Common.{HasRun, version_two, first_file_of, IsGreatest, passes_of, Lists, IsPlan, setting_of}
use Common.{Passed, Last, RunFault, IsRunFault, IsPassed, HasRunAll, last_content, other_content, other_last, greatest_is_last}
use Common.{AppendsBeginning, IsRootText, MatchesRoot, OutFault, IsLeastPlan, out_fault_of, run_fault_of, Report}
use Common.run
use Common.out
use Rattle.ag_grammar.proofs.grammars.Counting.{passes_have_all_rules}
use Rattle.treefile.specs.devices.Several.{BothPersist}
use Rattle.treefile.proofs.records.Fitting.{fits_version_two}
use Rattle.treefile.proofs.records.OneTree.{one_file}
use Rattle.passrun.specs.declared.last.Last.TheVariants.{A, B}
use Rattle.aggen.specs.Evaluating.{AreLeftOfTree, EvaluatesTree, IsEvaluationFault, IsTreeFaultBeforeText, LeavesFilesOfTree}
use Rattle.aggen.specs.Evaluating.{LeavesLastFilesOfTree}
use Rattle.aggen.specs.Translation.{BeginsTranslation, IsTreeInFile}
use Rattle.aggen.proofs.Composed.{begins_with, in_first_file, no_text, some_pass}
use Rattle.aggen.proofs.Joined.{counts_joined, joined}

-- after pass 1 `run_all` gets the devices in the order b, a: the device that it calls A is b
turned : (P : (newest previous : List ℕ) → Type 0) (which last : Last) (a b : List ℕ) → last ≡ other_last which
    → P (last_content which b a) (other_content which b a) → P (last_content last a b) (other_content last a b)
turned P A last a b e holds = rw e holds
turned P B last a b e holds = rw e holds

module _ {g : Grammar} {rows : List (List ℕ)} {code : Lists} (accepted : IsAccepted g) (plan : IsPlan g rows code) where
  -- the meaning of a fault of pass 1 for the content
  pub first_refused : (f : RunFault) (content : List ℕ) (ht ha hb : Bool)
      → WhenHonest ht (IsRunFault (setting_of g (record { assignment = rows; code = code }) 1) content f)
      → IsTreeFaultBeforeText g ht ha hb content (run_fault_of f)
  first_refused run.Device content ht ha hb exact = tt
  first_refused run.NoMemory content ht ha hb exact = tt
  first_refused (run.Damaged at) content ht ha hb exact = (
    tt,
    λ x y z. (
      (λ t is. (exact x).none t _ is.tree (in_first_file plan.legal is.file)),
      (record { assignment = rows; code = code }, plan.legal.positive, (exact x).shown),
    ),
  )
  first_refused run.TooDeep content ht ha hb exact = (
    tt,
    λ x y z. (
      (λ t is deep. (exact x).none (node_count t) t _ is.tree (record { deep = deep; large = omega arith })
          (in_first_file plan.legal is.file)),
      (record { assignment = rows; code = code }, plan.legal.positive, (exact x).shown),
    ),
  )
  first_refused run.TooManyNodes content ht ha hb exact = (
    tt,
    λ x y z. (
      (λ t is large. (exact x).none (depth_of t) t _ is.tree (record { deep = omega arith; large = large })
          (in_first_file plan.legal is.file)),
      (record { assignment = rows; code = code }, plan.legal.positive, (exact x).shown),
    ),
  )

  -- honest devices return a file that no later pass rejects
  pub never_later : {first : List ℕ} {count evals : ℕ} (f : RunFault) (content : List ℕ) (ht ha hb : Bool)
      → WhenHonest ht
      (WhenHonest hb (IsPassed (setting_of g (record { assignment = rows; code = code }) 1) content first count evals))
      → WhenHonest hb (WhenHonest ha (IsRunFault (setting_of g (record { assignment = rows; code = code }) 2) first f))
      → IsTreeFaultBeforeText g ht ha hb content (run_fault_of f)
  never_later run.Device content ht ha hb passed exact = tt
  never_later run.NoMemory content ht ha hb passed exact = tt
  never_later (run.Damaged at) content ht ha hb passed exact =
      (tt, λ x y z. let is = passed x z in absurd ((exact z y).none _ _ is.fits is.written))
  never_later f content ht ha hb passed exact =
      (tt, λ x y z. let is = passed x z in absurd ((exact z y).none _ _ _ is.fits is.limits is.written))

  module _ {content first a b : List ℕ} {evals more : ℕ} (one : Passed) {others : Passed} {which : Last} {report : Report}
      (greatest : IsGreatest report.passes rows)
      (passed : IsPassed (setting_of g (record { assignment = rows; code = code }) 1) content first one.nodes evals)
      (counts : (one.read ≡ one.nodes) × (one.written ≡ one.nodes))
      (all : HasRunAll g (passes_of rows) 1 report.passes first which b a more others)
      (last : report.last ≡ other_last which) (nodes : report.nodes ≡ one.nodes)
      (evals_are : report.evals ≡ evals + more) (read : report.read ≡ one.read + others.read)
      (written : report.written ≡ one.written + others.written) where
    -- a content is the file of at most one tree
    only : (s : Tree) → IsTreeInFile g content s → s ≡ passed.tree
    only s is =
        let fit = fits_version_two g (passes_of rows) accepted plan.legal in
        (one_file version_two g (passes_of rows) 0 s passed.tree _ passed.values content version_two_usable fit.1 fit.0 is.tree
        passed.fits (in_first_file plan.legal is.file) passed.from).0

    pub are_left_of_tree : AreLeftOfTree g (passes_of rows) content a b report
    are_left_of_tree =
        let m = passes_of rows in
        let t = passed.tree in
        let end : IsLastPass report.passes m = greatest_is_last report.passes rows greatest in
        let some = some_pass accepted plan.legal end in
        let run =
        turned (HasRun version_two g m t passed.values 2 report.passes) which report.last a b last
        (all.runs t passed.values passed.fits passed.written) in
        let whole = joined report.last a b plan.legal passed.fits passed.from passed.solved run in
        let count : suc (report.passes - 1) ≡ report.passes = omega arith in
        let sums =
        counts_joined passed.rules (counts.0 ∙ passed.nodes) (counts.1 ∙ passed.nodes)
        (all.counts t passed.values passed.fits passed.written) in
        record {
          tree = t;
          one = record {
            is_tree = record {
              tree = passed.fits;
              file = first_file_of version_two g m t passed.values content plan.legal.positive passed.fits passed.from;
            };
            only = only;
            within = passed.limits;
          };
          values = whole.values;
          leaves = record {
            solution =
                run_is_the_solution g m t passed.values whole.values report.passes accepted plan.legal end passed.fits whole.ran;
            file = whole.file;
            other = λ k e. whole.other k some e;
          };
          report_is = record {
            nodes = nodes ∙ passed.nodes;
            passes_are = refl;
            evals = cc (sums.0, passes_have_all_rules g m t report.passes accepted plan.legal end);
            read = cc sums.1;
            written = cc sums.2;
          };
        }

-- The root's text is read from the files that the passes left: `devices` is what this call does to the two devices.
module _ {D : Type 0} {honest : D → Bool} {failures : D → ℕ} {old_a new_a old_b new_b : D} {failed : Type 0} {g : Grammar}
    {rows : List (List ℕ)} {ht : Bool} {content a b : List ℕ} {report : Report}
    (devices : BothPersist honest failures old_a new_a honest failures old_b new_b failed)
    (files : LeavesFilesOfTree g rows ht (honest old_a) (honest old_b) content a b report) where
  left : WhenHonest ht
      (WhenHonest (honest new_a) (WhenHonest (honest new_b) (AreLeftOfTree g (passes_of rows) content a b report)))
  left h x y = files.left h (devices.first.honest x) (devices.second.honest y)

  -- the files are still there
  pub last_files : {code : Lists} {a' b' : List ℕ} → IsLeastPlan g rows code → WhenHonest (honest new_a) (a' ≡ a)
      → WhenHonest (honest new_b) (b' ≡ b) → LeavesLastFilesOfTree g ht (honest new_a) (honest new_b) content a' b'
  last_files {code} least same_a same_b = record {
    rows = rows;
    code = code;
    least = least;
    report = report;
    files = record { greatest = files.greatest; left = λ h x y. rw (same_a x, same_b y) (left h x y) };
  }

  -- the result for the last file is true of the values that the passes have left
  root_of : (r : Result (List ℕ) OutFault)
      → WhenHonest (honest new_a) (WhenHonest (honest new_b) (MatchesRoot g rows (last_content report.last a b) r))
      → (h : ht ≡ true) (x : honest new_a ≡ true) (y : honest new_b ≡ true) → IsRootText g (left h x y).values r
  root_of r exact h x y = let is = left h x y in
      exact x y report.passes files.greatest is.tree is.values is.one.is_tree.tree is.leaves.file

  -- the text of the root was written: the tree is evaluated
  pub evaluates : {code : Lists} {a' b' : List ℕ} {old new : Option (List ℕ)} (text : List ℕ) → IsLeastPlan g rows code
      → WhenHonest (honest new_a) (a' ≡ a) → WhenHonest (honest new_b) (b' ≡ b)
      → WhenHonest (honest new_a) (WhenHonest (honest new_b) (MatchesRoot g rows (last_content report.last a b) (Ok text)))
      → Appends old new text → EvaluatesTree g ht (honest new_a) (honest new_b) content a' b' old new report
  evaluates {code} text least same_a same_b exact put = record {
    assignment = passes_of rows;
    passes = report.passes;
    plan = record { rows = rows; code = code; least = least; same = refl; greatest = files.greatest };
    evaluated = λ h x y. let is = left h x y in rw (same_a x, same_b y) (record {
      tree = is.tree;
      one = is.one;
      translated = record {
        values = is.values;
        leaves = is.leaves;
        text = text;
        root = root_of (Ok text) exact h x y;
        output = put;
        report_is = is.report_is;
      };
    });
  }

  -- a prefix of the root's text was written
  pub begins : {old new : Option (List ℕ)} (text : List ℕ)
      → WhenHonest (honest new_a) (WhenHonest (honest new_b) (MatchesRoot g rows (last_content report.last a b) (Ok text)))
      → AppendsBeginning old new text
      → WhenHonest ht
      (WhenHonest (honest new_a) (WhenHonest (honest new_b) (BeginsTranslation (IsTreeInFile g content) g old new)))
  begins text exact prefix h x y =
      begins_with (left h x y).one (left h x y).leaves (root_of (Ok text) exact h x y) prefix

  -- the meaning of a fault of reading the root's text
  pub root_refused : (old new : Option (List ℕ)) (f : OutFault)
      → WhenHonest (honest new_a) (WhenHonest (honest new_b) (MatchesRoot g rows (last_content report.last a b) (Err f)))
      → IsEvaluationFault g ht (honest new_a) (honest new_b) content old new (out_fault_of f)
  root_refused old new out.Device exact = tt
  root_refused old new out.NoMemory exact = tt
  root_refused old new (out.NoText value) exact =
      λ h x y. no_text (left h x y).one (left h x y).leaves (root_of (Err (out.NoText value)) exact h x y)
  root_refused old new f exact = λ h x y. root_of (Err f) exact h x y
