-- The statements of the laws.
use Rattle.std.specs.Prelude.{ℕ, ◌≤◌, List, length}
use Rattle.ag_grammar.specs.grammars.Accepted.{IsAccepted}
use Rattle.ag_grammar.specs.grammars.AttributeGrammar.{Grammar}
use Rattle.ag_grammar.specs.grammars.Passes.{IsLegal}
use Rattle.passassign.specs.Rows.{passes_of, AreWithinMaxPasses, IsGreatest}
use Rattle.passcode.specs.Agreement.{Agrees}
use Rattle.passcode.specs.Rows.{Lists}
use Rattle.passcode.specs.Shape.{HasLists}
use Rattle.planchecker.specs.declared.plan.PlanFault.{PlanFault}
use Rattle.planchecker.specs.Plans.{IsPlan, IsPlanFault}
use Rattle.passcode.specs.Settings.{EvaluationPlan, setting_of}
use Rattle.passcode.specs.Sound.{IsSound}

-- No fault of `check_plan` is true of a legal assignment and code that agrees with it, if no pass is above 8,192, there are no
-- more rows than symbols, and there is a list for each production and pass. `assign` and `generate` return such results.
abbrev pub MadeIsAccepted : Type 0
MadeIsAccepted = (g : Grammar) (rows : List (List ℕ)) (code : Lists) → IsLegal g (passes_of rows) → AreWithinMaxPasses rows
    → length rows ≤ length g.symbols → Agrees g (passes_of rows) code → HasLists g rows code → (f : PlanFault)
    → IsPlanFault g rows code f → ⊥

-- Each pass of a plan for an accepted grammar is sound.
abbrev pub PlansAreSound : Type 0
PlansAreSound = (g : Grammar) (plan : EvaluationPlan) (passes k : ℕ) → IsAccepted g → IsPlan g plan.assignment plan.code
    → IsGreatest passes plan.assignment → 1 ≤ k → k ≤ passes → IsSound (setting_of g plan k)
