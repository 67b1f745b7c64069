-- The result of a pass for some tree holds for every tree that has the file it read. A fault of a pass also
-- holds for the content before the earlier passes ran.
use Rattle.passrun.proofs.Common
use Common.{◌≡◌, ℕ, suc, ◌-◌, ◌<◌, ◌≤◌, List, sym, arith, IsAccepted, Grammar, rules_of_pass, IsLegal, Same, Valuation, Tree}
use Common.{IsTreeOf, node_count, max_depth, max_nodes, same_weaker, passes_of, Setting, setting_of, version_two_usable}
use Common.{EvaluationPlan, IsFileOfTree, RunsPass, RunsPasses, version_two, fits_version_two, RunFault, IsRunFault, IsPassed}
use Common.fault
use Rattle.treefile.specs.framing.ExpectedRecords.{HasNoTreeWithin}
use Rattle.treefile.proofs.records.OneTree.{one_file}
use Rattle.treefile.proofs.Run.{refusal_goes_back, refusal_within_goes_back}
use Rattle.passrun.specs.Laws.{PassesAreRecorded}
use Rattle.passrun.specs.Rounds.{HoldsTree}

module _ (c : Setting) (from to : List ℕ) (count evals : ℕ) (accepted : IsAccepted c.grammar) (legal : IsLegal c.grammar c.passes)
    (next : c.write ≡ suc c.read) (is : IsPassed c from to count evals) where
  one : (t : Tree) (u : Valuation) → IsTreeOf c.grammar t → IsFileOfTree version_two c.grammar c.passes c.read t u from
      → (t ≡ is.tree) × Same (λ p. p ≤ c.read) c.grammar c.passes t u is.values
  one t u tree file =
      let fits = fits_version_two c.grammar c.passes accepted legal in
      one_file version_two c.grammar c.passes c.read t is.tree u is.values from version_two_usable fits.1 fits.0 tree is.fits file
      is.from

  pass_runs : RunsPass version_two c.grammar c.passes c.read from to
  pass_runs t u tree file =
      let both = one t u tree file in
      let weaker : Same (λ p. p < suc c.read) c.grammar c.passes t u is.values =
      same_weaker (λ p. p ≤ c.read) (λ p. p < suc c.read) c.grammar c.passes (λ p h. omega arith) t u is.values both.1 in
      rw both.0 (record {
        values = is.values;
        file = rw next at is.written;
        kept = rw both.0 at weaker;
        solved = rw next at is.solved;
      })

  pass_counts : (t : Tree) (u : Valuation) → IsTreeOf c.grammar t → IsFileOfTree version_two c.grammar c.passes c.read t u from
      → (count ≡ node_count t) × (evals ≡ rules_of_pass c.passes (suc c.read) c.grammar t)
  pass_counts t u tree file =
      let same = sym (one t u tree file).0 in (
        cc,
        cc,
      )

pub passes_are_recorded : PassesAreRecorded
passes_are_recorded g plan k from to count evals accepted legal positive is =
    let next : k ≡ suc (k - 1) = omega arith in (
      pass_runs (setting_of g plan k) from to count evals accepted legal next is,
      pass_counts (setting_of g plan k) from to count evals accepted legal next is,
    )

-- If a pass fails after others succeeded, its fault holds for the content before these passes: R1, P2 and P3 can't occur then,
-- since that content is the file of a tree within the limits.
module _ (g : Grammar) (plan : EvaluationPlan) (k n : ℕ) (start now before : List ℕ)
    (runs : RunsPasses version_two g (passes_of plan.assignment) (k - 1) (n - 1) start now before)
    (held : HoldsTree g (passes_of plan.assignment) (k - 1) start) where
  never_exceeds : HasNoTreeWithin max_depth max_nodes version_two g (passes_of plan.assignment) (n - 1) now → ⊥
  never_exceeds none =
      refusal_within_goes_back max_depth max_nodes version_two g (passes_of plan.assignment) (k - 1) (n - 1) start now before runs
      none held.tree held.values held.is_tree held.within held.file

  pub refused_back : (f : RunFault) → IsRunFault (setting_of g plan n) now f → IsRunFault (setting_of g plan k) start f
  refused_back (fault.Damaged at) damaged =
      absurd
      (refusal_goes_back version_two g (passes_of plan.assignment) (k - 1)
      (n - 1) start now before runs damaged.none held.tree held.values held.is_tree held.file)
  refused_back fault.TooDeep deep = absurd (never_exceeds (deep.none max_nodes))
  refused_back fault.TooManyNodes many = absurd (never_exceeds (many.none max_depth))
  refused_back _ none = tt
