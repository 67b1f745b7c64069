-- The results of all passes together.
use Rattle.passrun.proofs.Common
use Common.{◌≡◌, ℕ, zero, suc, ◌-◌, ◌≤◌, List, [], ◌∷◌, Some, None, refl, arith, Each, IsAccepted, Grammar, IsLegal, Passes}
use Common.{passes_have_all_rules, AreAtMost, passes_of, Last, Passed}
use Rattle.ag_grammar.specs.grammars.Running.{IsLastPass}
use Rattle.ag_grammar.proofs.grammars.Running.{run_is_the_solution}
use Rattle.passrun.specs.Laws.{AllRulesAreRun, GreatestIsLast, ValuesAreTheSolution}
use Rattle.passrun.specs.Rounds.{HasRunAll, LeavesSolutions, last_content, other_content}

pub all_rules_are_run : AllRulesAreRun
all_rules_are_run g m last start which a b evals sum accepted legal is h t u tree file =
    let none : last - 0 ≡ last = omega arith in
    cc ((h.counts t u tree file).evals_are, passes_have_all_rules g m t last accepted legal is)

pub values_are_the_solution : ValuesAreTheSolution
values_are_the_solution g m last start which a b evals sum accepted legal is h t u tree file =
    let run = h.runs t u tree file in
    run_is_the_solution g m t u run.values last accepted legal is tree run.ran

-- From pass 1 on, the last file has the solution.
pub solutions_left : {g : Grammar} {m : Passes} {k last : ℕ} {start : List ℕ} {which : Last} {a b : List ℕ} {evals : ℕ}
    {sum : Passed}
    → IsAccepted g → IsLegal g m → IsLastPass last m → k ≡ 0 → HasRunAll g m k last start which a b evals sum
    → LeavesSolutions g m last start (last_content which a b) (other_content which a b)
solutions_left {g} {m} {last} {start} {which} {a} {b} {evals} {sum} accepted legal is first ran t u tree file =
    let run = (rw first at ran).runs t u tree file in (
      run.values,
      record {
        solution = run_is_the_solution g m t u run.values last accepted legal is tree run.ran;
        file = run.file;
        other = λ n e. run.other n (omega arith) e;
      },
    )

-- No attribute of a symbol has a later pass than the greatest number of the rows.
row_within : (last : ℕ) (rows : List (List ℕ)) (s : ℕ) → AreAtMost last rows → Each (λ k. k ≤ last) (passes_of rows s)
row_within last [] s most i k at = absurd (let none : None ≡ Some k = at in cc)
row_within last (row ∷ rows) zero most i k at = most 0 row refl i k at
row_within last (row ∷ rows) (suc s) most i k at = row_within last rows s (λ n r e. most (suc n) r e) i k at

pub greatest_is_last : GreatestIsLast
greatest_is_last last rows h s = row_within last rows s h.most
