-- One more pass, alternating between two devices.
use Rattle.passrun.proofs.Common
use Common.{◌≡◌, ℕ, suc, ◌+◌, ◌-◌, ◌<◌, ◌≤◌, Bool, inl, inr, List, Result, Ok, Err, refl, arith, OnErr, OnOk, cases_lt}
use Common.{IsAccepted, Grammar, IsLegal, Passes, node_count, IsGreatest, passes_of, setting_of, Persists, WhenHonest}
use Common.{EvaluationPlan, RunsPass, RunsPasses, version_two, Passed, Last, A, B, RunFault, IsRunFault, CountsPass}
use Rattle.std.proofs.Math.Nat.{suc-mul}
use Rattle.treefile.specs.framing.Beginning.{BeginsFile, LeavesBeginning}
use Rattle.treefile.proofs.Run.{goes_on_run, starts_run}
use Rattle.passrun.specs.Rounds.{CountsPasses, HasRunAll, HoldsTree, IsPassedOn, LeavesSomeFile, last_content, one_more}
use Rattle.passrun.specs.Rounds.{other_content, other_last}
use Rattle.passrun.proofs.RecordedPasses.{passes_are_recorded, refused_back}

-- After the pass, the other device has the last file.
turned_last : (which : Last) (a b : List ℕ) → last_content (other_last which) a b ≡ other_content which a b
turned_last A a b = refl
turned_last B a b = refl

turned_other : (which : Last) (a b : List ℕ) → other_content (other_last which) a b ≡ last_content which a b
turned_other A a b = refl
turned_other B a b = refl

counts_start : (g : Grammar) (m : Passes) (k : ℕ) (start : List ℕ)
    → CountsPasses g m k 0 start 0 (record { nodes = 0; read = 0; written = 0 })
counts_start g m k start t u tree file = record {
  evals_are = refl;
  none = λ e. refl;
  nodes = λ less. absurd (omega arith);
  read = omega arith;
  written = omega arith;
}

counts_go_on : (g : Grammar) (m : Passes) (k count evals more : ℕ) (start now before : List ℕ) (sum passed : Passed)
    → RunsPasses version_two g m k (k + count) start now before → CountsPasses g m k count start evals sum
    → CountsPass g m (k + count) now passed.nodes more → passed.read ≡ passed.nodes → passed.written ≡ passed.nodes
    → CountsPasses g m k (suc count) start (evals + more) (one_more sum passed)
counts_go_on g m k count evals more start now before sum passed runs counts exact read written t u tree file =
    let run = runs t u tree file in
    let old = counts t u tree file in
    let here = exact t run.values tree run.file in
    let a = old.evals_are in
    let b = here.1 in
    let n = suc-mul count (node_count t) in
    let nodes = here.0 in
    let r = old.read in
    let w = old.written in
    record {
      evals_are = omega arith;
      none = λ e. absurd (omega arith);
      nodes = λ less. nodes;
      read = omega arith;
      written = omega arith;
    }

pub all_starts : {g : Grammar} {m : Passes} {k n : ℕ} {a b : List ℕ} {evals : ℕ} → n ≡ k → evals ≡ 0
    → HasRunAll g m k n a A a b evals (record { nodes = 0; read = 0; written = 0 })
all_starts {g} {m} {k} {a} {b} same fresh =
    let none : k - k ≡ 0 = omega arith in
    rw (same, fresh) (record {
      runs = starts_run version_two g m k a b;
      counts = rw none (counts_start g m k a);
      held = λ less. absurd (omega arith);
      fresh = λ e. refl;
      nothing = λ e. (refl, refl, refl);
    })

-- After pass `last` one more pass ran, pass n, from the device with the last file to the other.
module _ {g : Grammar} (plan : EvaluationPlan) {k last n : ℕ} {start a b a_new b_new : List ℕ} {which : Last}
    {evals more : ℕ} {sum : Passed} (passed : Passed) (accepted : IsAccepted g) (legal : IsLegal g (passes_of plan.assignment))
    (le : k ≤ last) (is : n ≡ suc last) (before : HasRunAll g (passes_of plan.assignment) k last start which a b evals sum)
    (step : IsPassedOn (setting_of g plan n) which a b a_new b_new passed.nodes more) (read : passed.read ≡ passed.nodes)
    (written : passed.written ≡ passed.nodes) where
  exact : RunsPass version_two g (passes_of plan.assignment) last (last_content which a b) (other_content which a_new b_new)
      × CountsPass g (passes_of plan.assignment) last (last_content which a b) passed.nodes more
  exact =
      let here : n - 1 ≡ last = omega arith in
      rw (← here)
      (passes_are_recorded g plan n (last_content which a b) (other_content which a_new b_new) passed.nodes more accepted legal
      (omega arith) step.passed)

  runs_on : RunsPasses version_two g (passes_of plan.assignment) k (suc last) start (last_content (other_last which) a_new b_new)
      (other_content (other_last which) a_new b_new)
  runs_on =
      rw (turned_last, turned_other, step.kept)
      (goes_on_run version_two g (passes_of plan.assignment) k last start (last_content which a b) (other_content which a b)
      (other_content which a_new b_new) legal le before.runs exact.0)

  counts_on : CountsPasses g (passes_of plan.assignment) k (suc last - k) start (evals + more) (one_more sum passed)
  counts_on =
      let here : k + (last - k) ≡ last = omega arith in
      let there : suc last - k ≡ suc (last - k) = omega arith in
      rw there
      (counts_go_on g (passes_of plan.assignment) k (last - k) evals more start (last_content which a b)
      (other_content which a b) sum passed (rw here before.runs) before.counts (rw here exact.1) read written)

  held_on : k < suc last → HoldsTree g (passes_of plan.assignment) k start
  held_on less = elim (cases_lt k last) [
    | inl before_it ↦ before.held before_it
    | inr none ↦ (
        let same : last ≡ k = omega arith in
        let here : n - 1 ≡ k = omega arith in
        let one = step.passed in
        rw (← before.fresh same, ← here)
        (record { tree = one.tree; values = one.values; is_tree = one.fits; within = one.limits; file = one.from }))
  ]

  pub all_goes_on : {total : ℕ} {which_now : Last} {sum_now : Passed} → total ≡ evals + more → which_now ≡ other_last which
      → sum_now ≡ one_more sum passed → HasRunAll g (passes_of plan.assignment) k n start which_now a_new b_new total sum_now
  all_goes_on f h i = rw (is, f, h, i) (record {
    runs = runs_on;
    counts = counts_on;
    held = held_on;
    fresh = λ e. absurd (omega arith);
    nothing = λ e. absurd (omega arith);
  })

pub all_refused : {g : Grammar} (plan : EvaluationPlan) (first : ℕ) {last n : ℕ} {start a b : List ℕ} {which : Last}
    {evals : ℕ} {sum : Passed} → n ≡ suc last → 1 ≤ first → first - 1 ≤ last
    → HasRunAll g (passes_of plan.assignment) (first - 1) last start which a b evals sum → (f : RunFault)
    → IsRunFault (setting_of g plan n) (last_content which a b) f → IsRunFault (setting_of g plan first) start f
all_refused {g} plan first {last} {n} {start} {a} {b} {which} is positive le h f fault = elim (cases_lt (first - 1) last) [
  | inl some ↦ (
      let here : last ≡ n - 1 = omega arith in
      refused_back g plan first n start (last_content which a b) (other_content which a b)
      (rw (← here) h.runs) (h.held some) f fault)
  | inr none ↦ (
      let same : last ≡ first - 1 = omega arith in
      let here : n ≡ first = omega arith in
      rw (← h.fresh same, ← here) fault)
]

pub greatest_most : {rows : List (List ℕ)} {a b : ℕ} → IsGreatest a rows → IsGreatest b rows → a ≤ b
greatest_most {a} f h = elim f.there [
  | inl none ↦ omega arith
  | inr at ↦ h.most at.1.0 at.0 at.1.1 at.2.0 a at.2.1
]

-- A device that was not used persists, and persisting is transitive.
pub persists_still : (honest : Bool) (failures : ℕ) → Persists honest honest failures failures ⊥
persists_still honest failures = record { honest = λ h. h; kept = omega arith; bounded = λ few. few; cause = λ f. absurd f }

pub persists_on : {h0 h1 h2 : Bool} {f0 f1 f2 : ℕ} → Persists h0 h1 f0 f1 ⊥ → Persists h1 h2 f1 f2 ⊥ → Persists h0 h2 f0 f2 ⊥
persists_on old new =
    let a = old.kept in
    let b = new.kept in
    record {
      honest = λ h. old.honest (new.honest h);
      kept = omega arith;
      bounded = λ few. new.bounded (old.bounded few);
      cause = λ f. absurd f;
    }

-- A pass leaves its file, a prefix of it, or the old content.
pub some_left : (pass : ℕ) (honest : Bool) (old : List ℕ) {new : List ℕ} (r : Result Passed RunFault)
    → OnOk r (WhenHonest honest (BeginsFile pass new)) → OnErr r (WhenHonest honest (LeavesBeginning pass old new))
    → WhenHonest honest (LeavesSomeFile old new)
some_left pass honest old (Ok p) begun left h = (pass, inr (begun h))
some_left pass honest old (Err f) begun left h = (pass, left h)

-- Two passes in sequence leave on a device what one pass may leave: the old content, or a prefix of a tree file.
pub left_again : (old between new : List ℕ) → LeavesSomeFile old between → LeavesSomeFile between new → LeavesSomeFile old new
left_again old between new first (pass, inl same) = rw same first
left_again old between new first (pass, inr begun) = (pass, inr begun)
