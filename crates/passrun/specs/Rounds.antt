-- Passes in sequence, alternating between two devices (after Jazayeri and Walter 1975). The form of the
-- definitions and the counts are this project's. The letters: g is a grammar, m the passes of its attributes, k the number of a
-- pass, t a tree, u and v are values of its attributes, and a and b contents of the first and the second device.
use Rattle.std.specs.Prelude.{ℕ, zero, suc, ◌≡◌, ◌+◌, ◌*◌, ◌-◌, ◌<◌, ◌≤◌, List}
use Rattle.ag_grammar.specs.grammars.AttributeGrammar.{Grammar}
use Rattle.ag_grammar.specs.grammars.Counts.{rules_of_pass, sum_of_passes}
use Rattle.ag_grammar.specs.grammars.Passes.{Passes}
use Rattle.ag_grammar.specs.grammars.Running.{IsTheSolution}
use Rattle.ag_grammar.specs.grammars.Solution.{Valuation}
use Rattle.ag_grammar.specs.grammars.Tree.{Tree, IsTreeOf, IsWithinLimits, max_depth, max_nodes, node_count}
use Rattle.treefile.specs.framing.Beginning.{LeavesBeginning}
use Rattle.treefile.specs.records.Records.{IsFileOfTree}
use Rattle.treefile.specs.Runs.{RunsPasses}
use Rattle.treefile.specs.records.TreeFile.{version_two}
use Rattle.passcode.specs.Settings.{Setting}
use Rattle.passrun.specs.declared.passing.ends.Passed.{Passed}
use Rattle.passrun.specs.declared.last.Last.{Last}
use Rattle.passrun.specs.declared.last.Last.TheVariants.{A, B}
use Rattle.passrun.specs.Passed.{IsPassed}

-- The content of the device that has the last file.
abbrev pub last_content : Last → (a b : List ℕ) → List ℕ
last_content A a b = a
last_content B a b = b

-- The content of the other device.
abbrev pub other_content : Last → (a b : List ℕ) → List ℕ
other_content A a b = b
other_content B a b = a

-- The other device.
abbrev pub other_last : Last → Last
other_last A = B
other_last B = A

-- The device that has the last file after this number of passes that alternate between two devices. The first pass writes to the
-- second device.
abbrev pub last_after : (passes : ℕ) → Last
last_after zero = A
last_after (suc passes) = other_last (last_after passes)

-- The pass of the setting c ran from the device that has the last file to the other one, and did not change the content that it
-- read. a and b are the contents before the pass, and a_new and b_new those after it. `count` and `evals` are as in `IsPassed`.
pub record IsPassedOn (c : Setting) (last : Last) (a b a_new b_new : List ℕ) (count evals : ℕ) : Type 0 where
  pub passed : IsPassed c (last_content last a b) (other_content last a_new b_new) count evals
  pub kept : last_content last a_new b_new ≡ last_content last a b

-- The counts `sum` of some passes together with those of one more, `passed`. The number of nodes is that of this pass.
abbrev pub one_more : Passed → Passed → Passed
one_more sum passed = record { nodes = passed.nodes; read = sum.read + passed.read; written = sum.written + passed.written }

-- The counts of `count` passes after pass k over the tree t. They evaluated `evals` rules: as many as the tree has in these
-- passes. `sum` has the other counts: each pass read and wrote as many records as the tree has nodes. The number of nodes in
-- `sum` is 0 if no pass ran.
pub record HasCounted (g : Grammar) (m : Passes) (t : Tree) (k count evals : ℕ) (sum : Passed) : Type 0 where
  pub evals_are : evals ≡ sum_of_passes (λ p. rules_of_pass m p g t) k count
  pub none : count ≡ 0 → sum.nodes ≡ 0
  pub nodes : 0 < count → sum.nodes ≡ node_count t
  pub read : sum.read ≡ count * node_count t
  pub written : sum.written ≡ count * node_count t

-- The counts hold (`HasCounted`) for every tree that has the content `start` as its file of pass k.
abbrev pub CountsPasses : Grammar → Passes → (k count : ℕ) → (start : List ℕ) → (evals : ℕ) → Passed → Type 0
CountsPasses g m k count start evals sum = (t : Tree) (u : Valuation) → IsTreeOf g t → IsFileOfTree version_two g m k t u start
    → HasCounted g m t k count evals sum

-- A content is the file of pass k of a tree of the grammar within the limits, with some values.
pub record HoldsTree (g : Grammar) (m : Passes) (k : ℕ) (content : List ℕ) : Type 0 where
  pub tree : Tree
  pub values : Valuation
  pub is_tree : IsTreeOf g tree
  pub within : IsWithinLimits max_depth max_nodes tree
  pub file : IsFileOfTree version_two g m k tree values content

-- All passes after pass k ran, up to pass `last`, from the content `start` of the first device. Now the contents are a and b, and
-- the device `which` has the last file. `evals` and `sum` are the counts of these passes. If at least one ran, `start` is the
-- file of a tree within the limits. If none ran, `start` is the last file, still on the first device, and all counts are 0.
pub record HasRunAll (g : Grammar) (m : Passes) (k last : ℕ) (start : List ℕ) (which : Last) (a b : List ℕ) (evals : ℕ)
    (sum : Passed) : Type 0 where
  pub runs : RunsPasses version_two g m k last start (last_content which a b) (other_content which a b)
  pub counts : CountsPasses g m k (last - k) start evals sum
  pub held : k < last → HoldsTree g m k start
  pub fresh : last ≡ k → last_content which a b ≡ start
  pub nothing : last ≡ k → (which ≡ A) × (evals ≡ 0) × (sum ≡ record { nodes = 0; read = 0; written = 0 })

-- The solution of a tree was computed: the content `last` is the tree's file of the last pass, whose number is `passes`, and
-- `previous` that of the pass before it (if there is one). The values v in them are the only ones that satisfy each equation at
-- each node (Knuth 1968; Jazayeri and Walter 1975).
pub record LeavesSolution (g : Grammar) (m : Passes) (passes : ℕ) (t : Tree) (v : Valuation)
    (last previous : List ℕ) : Type 0 where
  pub solution : IsTheSolution g m t v
  pub file : IsFileOfTree version_two g m passes t v last
  pub other : (k : ℕ) → passes ≡ suc k → IsFileOfTree version_two g m k t v previous

-- The solution was computed for every tree that has the start as its file of pass 0.
abbrev pub LeavesSolutions : Grammar → Passes → (passes : ℕ) → (start last previous : List ℕ) → Type 0
LeavesSolutions g m passes start last previous = (t : Tree) (u : Valuation) → IsTreeOf g t
    → IsFileOfTree version_two g m 0 t u start → (v : Valuation) × LeavesSolution g m passes t v last previous

-- The content of a device that a call may write to: the old content, or a prefix of a tree file of some pass.
abbrev pub LeavesSomeFile : (old new : List ℕ) → Type 0
LeavesSomeFile old new = (pass : ℕ) × LeavesBeginning pass old new

-- The contents after a failure in the passes after pass k; a and b are the old contents of the first and the second device. The
-- passes up to `done` ran, possibly none, and the next one failed. The device that it was to read, `which`, still has the file of
-- pass `done`. The other device has its content from before the failed pass, `before`, or a prefix of a file of that pass. If at
-- least one pass ran, a is the file of a tree within the limits. If none ran, the first device still has a, whatever that is.
pub record LeavesAfterFailure (g : Grammar) (m : Passes) (k : ℕ) (a b a_new b_new : List ℕ) : Type 0 where
  pub done : ℕ
  pub which : Last
  pub before : List ℕ
  pub far : k ≤ done
  pub runs : RunsPasses version_two g m k done a (last_content which a_new b_new) before
  pub held : k < done → HoldsTree g m k a
  pub none : done ≡ k → (which ≡ A) × (a_new ≡ a) × (before ≡ b)
  pub left : LeavesBeginning (done + 1) before (other_content which a_new b_new)
