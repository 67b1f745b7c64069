-- The statements of the laws. All definitions are this project's. The letters: g is a grammar, m the passes of its attributes, k
-- the number of a pass, t a tree, u are values of its attributes. `last`, `start`, `which`, a, b, `evals` and `sum` are as in
-- `HasRunAll`.
use Rattle.std.specs.Prelude.{ℕ, suc, ◌≤◌, ◌≡◌, ◌-◌, List}
use Rattle.ag_grammar.specs.grammars.Accepted.{IsAccepted}
use Rattle.ag_grammar.specs.grammars.AttributeGrammar.{Grammar}
use Rattle.ag_grammar.specs.grammars.Counts.{rules_of, rules_of_pass}
use Rattle.ag_grammar.specs.grammars.Passes.{IsLegal, Passes}
use Rattle.ag_grammar.specs.grammars.Running.{IsLastPass, IsTheSolution}
use Rattle.ag_grammar.specs.grammars.Solution.{Valuation}
use Rattle.ag_grammar.specs.grammars.Tree.{Tree, IsTreeOf, node_count}
use Rattle.passassign.specs.Rows.{IsGreatest, passes_of}
use Rattle.planchecker.specs.Plans.{IsPlan}
use Rattle.passcode.specs.Settings.{EvaluationPlan, setting_of}
use Rattle.treefile.specs.records.Records.{IsFileOfTree}
use Rattle.treefile.specs.Runs.{RunsPass}
use Rattle.treefile.specs.records.TreeFile.{version_two}
use Rattle.passrun.specs.declared.passing.ends.Passed.{Passed}
use Rattle.pass_rows.specs.declared.layouts.context.PassContext.{PassContext}
use Rattle.passrun.specs.declared.last.Last.{Last}
use Rattle.pass_rows.specs.declared.run_fault.RunFault.{RunFault}
use Rattle.passrun.specs.Damage.{Shows, Source}
use Rattle.pass_rows.specs.layouts.Contexts.{CanRun, setting}
use Rattle.pass_rows.specs.layouts.Layouts.{IsLayout}
use Rattle.passrun.specs.Passed.{IsPassed}
use Rattle.passrun.specs.Rounds.{HasRunAll}

-- A pass of a plan of an accepted grammar can run, in a context that has the layout of each production.
abbrev pub PlansCanRun : Type 0
PlansCanRun = (context : PassContext) (passes : ℕ) → IsAccepted context.setting.grammar.now
    → IsPlan context.setting.grammar.now context.setting.plan.now.assignment context.setting.plan.now.code
    → IsGreatest passes context.setting.plan.now.assignment → 1 ≤ context.setting.pass → context.setting.pass ≤ passes
    → IsLayout (setting context) context.rows.now → CanRun context

-- For an accepted grammar, at most one of R1 with an offset, P2 and P3 shows (`Shows`) in a content.
abbrev pub ShowsOnce : Type 0
ShowsOnce = (s : Source) (content : List ℕ) (one another : RunFault) → IsAccepted s.grammar → Shows s content one
    → Shows s content another → one ≡ another

-- The counts of pass k + 1 hold for every tree that has the content as its file of pass k.
abbrev pub CountsPass : Grammar → Passes → ℕ → (from : List ℕ) → (count evals : ℕ) → Type 0
CountsPass g m k from count evals = (t : Tree) (u : Valuation) → IsTreeOf g t → IsFileOfTree version_two g m k t u from
    → (count ≡ node_count t) × (evals ≡ rules_of_pass m (suc k) g t)

-- The result of a pass for some tree holds for every tree that has the file that the pass read: there is only one such tree.
abbrev pub PassesAreRecorded : Type 0
PassesAreRecorded =
    (g : Grammar) (plan : EvaluationPlan) (k : ℕ) (from to : List ℕ) (count evals : ℕ) → IsAccepted g
    → IsLegal g (passes_of plan.assignment) → 1 ≤ k
    → IsPassed (setting_of g plan k) from to count evals
    → RunsPass version_two g (passes_of plan.assignment) (k - 1) from to
    × CountsPass g (passes_of plan.assignment) (k - 1) from count evals

-- Passes 1 to the last evaluate as many rules as the tree has, for a legal assignment of an accepted grammar.
abbrev pub AllRulesAreRun : Type 0
AllRulesAreRun =
    (g : Grammar) (m : Passes) (last : ℕ) (start : List ℕ) (which : Last) (a b : List ℕ) (evals : ℕ) (sum : Passed) → IsAccepted g
    → IsLegal g m → IsLastPass last m
    → HasRunAll g m 0 last start which a b evals sum → (t : Tree) (u : Valuation) → IsTreeOf g t
    → IsFileOfTree version_two g m 0 t u start → evals ≡ rules_of g t

-- The values after all passes satisfy all equations, and no others do. `h` is the fact that all passes ran. Its part `h.runs`
-- holds for every tree: `h.runs t u tree file` is the fact that they ran over the tree t, and `values` are the values that they
-- left.
abbrev pub ValuesAreTheSolution : Type 0
ValuesAreTheSolution =
    (g : Grammar) (m : Passes) (last : ℕ) (start : List ℕ) (which : Last) (a b : List ℕ) (evals : ℕ) (sum : Passed) → IsAccepted g
    → IsLegal g m → IsLastPass last m
    → (h : HasRunAll g m 0 last start which a b evals sum) (t : Tree) (u : Valuation) (tree : IsTreeOf g t)
    (file : IsFileOfTree version_two g m 0 t u start) → IsTheSolution g m t (h.runs t u tree file).values

-- No attribute has a later pass than the greatest number in an assignment (`IsLastPass`), whose rows are lists of passes.
abbrev pub GreatestIsLast : Type 0
GreatestIsLast = (last : ℕ) (rows : List (List ℕ)) → IsGreatest last rows → IsLastPass last (passes_of rows)
