-- The sample lists.
use Rattle.passcode.proofs.Common
use Common.{ℕ, zero, suc, ◌≡◌, ◌<◌, inl, inr, List, [], ◌∷◌, Some, slice_get, refl, ap, sym, arith, Rule, Target}
use Common.{IsArgument, HasPass, IsLegal, ListAgrees, IsRuleAt, OccursOnceIf, instruction_of, AreDone, IsVisited}
use Common.{Runs, start, IsPlanned}
use Rattle.ag_grammar.specs.grammars.Sample.{attribute, sample, sample_passes, rule_out}
use Rattle.ag_grammar.proofs.grammars.samples.NumberSample.{accepted}
use Rattle.passcode.specs.Sample.{sample_production, sample_list, forward_list, late_list, undefined_list}
use Rattle.passcode.specs.Sample.{hasty_list, hasty_passes, hasty_production, hasty_rule}
use Rattle.passcode.proofs.Agreeing.{agrees}
use Rattle.passcode.proofs.Following.{follows}
use Rattle.passcode.proofs.Lawful.{planned}
use Rattle.passcode.proofs.Leaving.{lacks_number, list_runs}

pub sample_visited : IsVisited sample_production 1 1 2
sample_visited = (0, omega arith, refl)

pub sample_unvisited : IsVisited sample_production 1 1 1 → ⊥
sample_unvisited (zero, less, e) = cc
sample_unvisited (suc t, less, e) = omega arith

known : IsLegal sample sample_passes → IsPlanned sample_passes sample_production
known legal = planned sample sample_passes accepted legal 0 sample_production refl

pub sample_runs : IsLegal sample sample_passes → Runs sample_passes sample_production 1 start sample_list
sample_runs legal = let k = known legal in list_runs sample_passes sample_production 1 (omega arith) k.single k.allowed

pub sample_agrees : IsLegal sample sample_passes → ListAgrees sample_passes sample_production 1 sample_list
sample_agrees legal = agrees sample_passes sample_production 1 sample_list (omega arith) (sample_runs legal)

pub forward_refused : ListAgrees sample_passes sample_production 1 forward_list → ⊥
forward_refused h = let bad : 7 < 0 = h.visits.in_direction 2 1 (omega arith) 7 0 refl refl in omega arith

pub late_refused : ListAgrees sample_passes sample_production 1 late_list → ⊥
late_refused h = let bad : 6 < 5 = h.computes.before_go 1 1 1 6 5 refl refl in omega arith

-- at the `End` of `undefined_list` rule 0 was not run
pub undefined_refused : IsLegal sample sample_passes → ListAgrees sample_passes sample_production 1 undefined_list → ⊥
undefined_refused legal h = let k = known legal in let runs =
    follows sample_passes sample_production 1 undefined_list (omega arith) k.allowed h in
    lacks_number (1 ∷ 2 ∷ []) 0 refl (runs.1.1.1.1.1.1.1.1.0.2 0 0 rule_out refl refl refl)

-- the only rule of `hasty_production`
only_rule : (r : ℕ) (u : Rule) → IsRuleAt hasty_production r u → (hasty_rule ≡ u) × (0 ≡ r)
only_rule zero u e = (cc, refl)
only_rule (suc r) u e = absurd cc

own_attribute : (o : Target) → IsArgument hasty_rule o → attribute 0 1 ≡ o
own_attribute o (zero, e) = cc
own_attribute o (suc n, e) = absurd cc

-- under this assignment, in which `i` has pass 1 too, `hasty_list` runs
abbrev calm_passes : ℕ → List ℕ
calm_passes s = 1 ∷ 1 ∷ []

calm_runs : Runs calm_passes hasty_production 1 start hasty_list
calm_runs = (
  (
    (λ e. cc),
    record {
      rule = hasty_rule;
      numbered = refl;
      target = refl;
      passed = refl;
      available = λ o arg. rw (sym (own_attribute o arg)) (1, refl, omega arith, inr (inl refl));
      fresh = λ h. (let e : slice_get {X = ℕ} [] h.0 ≡ Some 0 = h.1 in cc);
    },
  ),
  ((refl, refl, computed), refl),
)
  where
    computed : (j : ℕ) → AreDone calm_passes hasty_production 1 (record { phase = start.phase; turn = 0; done = 0 ∷ [] }) j
    computed j r u at place has = (0, ap Some (only_rule r u at).1)

-- so the list agrees under `calm_passes`, and under `hasty_passes` too, which differs only in the pass of an argument
pub hasty_agrees : ListAgrees hasty_passes hasty_production 1 hasty_list
hasty_agrees = record {
  visits = calm.visits;
  computes = record {
    computed = computed;
    own = calm.computes.own;
    after_get = calm.computes.after_get;
    before_go = calm.computes.before_go;
  };
  arguments = λ r n u o at occurs arg. inl
      (rw (sym (own_attribute o (rw (sym (only_rule r u at).0) at arg))));
  ends = calm.ends;
}
  where
    calm : ListAgrees calm_passes hasty_production 1 hasty_list
    calm = agrees calm_passes hasty_production 1 hasty_list (omega arith) calm_runs

    computed : (r : ℕ) (u : Rule) → IsRuleAt hasty_production r u
        → OccursOnceIf (HasPass hasty_passes hasty_production u.target 1) hasty_list (instruction_of u r)
    computed r u at =
        let was = calm.computes.computed r u at in
        let is = only_rule r u at in
        record {
          there = λ has. was.there (rw (sym is.0));
          only = λ h. rw (sym is.0);
          once = was.once;
        }

pub hasty_stops : Runs hasty_passes hasty_production 1 start hasty_list → ⊥
hasty_stops h =
    let run_rule = h.0.1 in
    let is = only_rule 0 run_rule.rule run_rule.numbered in
    let hand = run_rule.available (attribute 0 1) (rw (sym is.0) (0, refl)) in
    let passed : Some 2 ≡ Some hand.0 = hand.1 in
    let second : 2 ≡ hand.0 = cc in
    let most = hand.2 in
    omega arith
