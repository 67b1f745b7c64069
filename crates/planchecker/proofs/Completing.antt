-- Lists that agree and begin with the instructions of a list that was run up to an index.
use Rattle.planchecker.proofs.Common
use Common.{ℕ, zero, suc, ◌≡◌, ◌+◌, ◌<◌, ◌≤◌, ◌⊎◌, ◌↔◌, inl, inr, List, [], ◌∷◌, ◌++◌, Some, slice_get, take, length, refl, ap}
use Common.{◌∙◌, sym, arith, add-one, slice_get_within, Has, Production, Rule, Target, IsArgument, Passes, Instr, ListAgrees}
use Common.{IsAvailable, State, start, state_at, BeginsAs, CanBegin, IsFirstWrong, IsOnPath, RunsRule, state_of}
use Rattle.passcode.specs.declared.instr.Instr.TheVariants as instr
use Rattle.passcode.specs.declared.phase.Phase.TheVariants.{Ended}
use Rattle.passcode.specs.Course.{MayCompute, MayRun, Runs, after, arity, read_count}
use Rattle.passcode.specs.Limits.{IsPlanned}
use Rattle.passcode.specs.Listing.{remaining_in}
use Rattle.passcode.proofs.Agreeing.{agrees}
use Rattle.passcode.proofs.Following.{follows}
use Rattle.passcode.proofs.Leaving.{IsReached, remaining_runs, reached, starts}
use Rattle.passcode.proofs.States.{MayRunTo, index_runs, kept, runs_by_index, state_next}
use Rattle.passcode.proofs.Marks.{read_in, read_within}
use Rattle.planchecker.specs.declared.following.NodeState.{NodeState}
use Rattle.planchecker.proofs.Loops.{or_none}

-- a list's first n instructions, followed by any others, begin as the list
begins_as : (xs zs : List Instr) (n : ℕ) → BeginsAs n xs (take n xs ++ zs)
begins_as xs zs zero i x less at = absurd (omega arith)
begins_as [] zs (suc n) i x less at = absurd (let bad : ⊥ = cc in bad)
begins_as (y ∷ xs) zs (suc n) zero x less at = at
begins_as (y ∷ xs) zs (suc n) (suc i) x less at = begins_as xs zs n i x (omega arith) at

same_state : (q : Production) (s : State) (xs ys : List Instr) (n : ℕ) → n ≤ length xs → BeginsAs n xs ys
    → state_at q s xs n ≡ state_at q s ys n
same_state q s xs ys zero most keeps = refl
same_state q s [] ys (suc n) most keeps = absurd (omega arith)
same_state q s (x ∷ xs) [] (suc n) most keeps = absurd (let both = keeps 0 x (omega arith) refl in let bad : ⊥ = cc in bad)
same_state q s (x ∷ xs) (y ∷ ys) (suc n) most keeps =
    let both = keeps 0 x (omega arith) refl in
    let same : y ≡ x = cc in
    rw same (same_state q (after q s x) xs ys n (omega arith) (λ i z less at. keeps (suc i) z (omega arith) at))

-- after rule n was run too, the rules that were run are n and the earlier ones
split : (n r : ℕ) (done : List ℕ) → Has (n ∷ done) r → Has done r ⊎ (n ≡ r)
split n r done (zero, e) = inr cc
split n r done (suc i, e) = inl (i, e)

one_more : (n r : ℕ) (done : List ℕ) → Has (n ∷ done) r ↔ (Has done r ⊎ (n ≡ r))
one_more n r done = (split n r done, λ h. elim h [ inl i ↦ (suc i.0, i.1) | inr e ↦ (0, ap Some e) ])

number_run : (q : Production) (s : State) (x : Instr) (r : ℕ) → Has (after q s x).done r ↔ (Has s.done r ⊎ RunsRule x r)
number_run q s (instr.Get j) r = or_none
number_run q s (instr.Go j) r = or_none
number_run q s (instr.Put j) r = or_none
number_run q s instr.End r = or_none
number_run q s (instr.Set j a n) r = one_more n r s.done
number_run q s (instr.Def a n) r = one_more n r s.done

abbrev Ran : List Instr → ℕ → ℕ → Type 0
Ran xs n r = (i : ℕ) × (x : Instr) × (i < n) × (slice_get xs i ≡ Some x) × RunsRule x r

pub leading_run : (q : Production) (r : ℕ) (xs : List Instr) (s : State) (n : ℕ) → Has (state_at q s xs n).done r
    → Has s.done r ⊎ Ran xs n r
leading_run q r xs s zero h = inl h
leading_run q r [] s (suc n) h = inl h
leading_run q r (y ∷ xs) s (suc n) h = elim (leading_run q r xs (after q s y) n h) [
  | inl now ↦ elim ((number_run q s y r).0 now) [ inl was ↦ inl was | inr here ↦ inr (0, y, omega arith, refl, here) ]
  | inr (i, x, less, at, runs) ↦ inr (suc i, x, omega arith, at, runs)
]

pub prefix_is_run : (q : Production) (r : ℕ) (xs : List Instr) (s : State) (n : ℕ) → Has s.done r ⊎ Ran xs n r
    → Has (state_at q s xs n).done r
prefix_is_run q r xs s zero (inl h) = h
prefix_is_run q r xs s zero (inr h) = absurd (let less = h.2 in omega arith)
prefix_is_run q r [] s (suc n) (inl h) = h
prefix_is_run q r [] s (suc n) (inr h) = absurd (let at = h.3 in let bad : ⊥ = cc in bad)
prefix_is_run q r (y ∷ xs) s (suc n) (inl h) = prefix_is_run q r xs (after q s y) n (inl ((number_run q s y r).1 (inl h)))
prefix_is_run q r (y ∷ xs) s (suc n) (inr (zero, x, less, at, runs)) = let same : x ≡ y = cc in
    prefix_is_run q r xs (after q s y) n (inl ((number_run q s y r).1 (inr (rw same at runs))))
prefix_is_run q r (y ∷ xs) s (suc n) (inr (suc i, x, less, at, runs)) =
    prefix_is_run q r xs (after q s y) n (inr (i, x, omega arith, at, runs))

-- the arguments of a rule that may be run
pub available : (m : Passes) (q : Production) (k : ℕ) (s : State) (j a r : ℕ) (u : Rule) → slice_get q.rules r ≡ Some u
    → MayCompute m q k s j a r → (o : Target) → IsArgument u o → IsAvailable m q k s o
available m q k s j a r u is h o arg = let same : h.rule ≡ u = cc in h.available o (rw same arg)

pub next_state : (q : Production) (xs : List Instr) (n : ℕ) (x : Instr) → slice_get xs n ≡ Some x
    → state_at q start xs (n + 1) ≡ after q (state_at q start xs n) x
next_state q xs n x at = rw (add-one n) (state_next (λ s. []) q 0 start xs n x at)

-- a node in the state before its next instruction meets what its methods require (`IsOnPath`)
pub on_way : (node : NodeState) → node.phase ≡ (state_of node).phase → node.turn ≡ (state_of node).turn
    → node.index < length node.list.now → node.children ≡ arity node.context.production.now → (m : Passes)
    → IsPlanned m node.context.production.now → (k : ℕ) → MayRunTo m node.context.production.now k start node.list.now node.index
    → IsOnPath node
on_way node phase turn less children m planned k may =
    let q = node.context.production.now in
    let most = planned.places in
    let read = kept m q k node.list.now node.index may (λ s. read_in s ≤ arity q) (read_within m q k) 0 node.index
    (omega arith) (omega arith) (omega arith) in
    let same = ap (λ p. read_count p node.turn) phase ∙ ap (read_count (state_of node).phase) turn in
    record {
      phase = phase;
      turn = turn;
      within = omega arith;
      children = children;
      read = omega arith;
      places = omega arith;
      rules = planned.rules;
    }

module _ (m : Passes) (q : Production) (planned : IsPlanned m q) (k : ℕ) (one : 1 ≤ k) (xs : List Instr) (n : ℕ)
    (most : n ≤ length xs) (may : MayRunTo m q k start xs n) where
  -- instructions that were run, and others that run after them, are a list that runs
  prefix_runs : (s : State) (xs zs : List Instr) (n : ℕ) → n ≤ length xs → MayRunTo m q k s xs n
      → Runs m q k (state_at q s xs n) zs → Runs m q k s (take n xs ++ zs)
  prefix_runs s xs zs zero most may runs = runs
  prefix_runs s [] zs (suc n) most may runs = absurd (omega arith)
  prefix_runs s (x ∷ xs) zs (suc n) most may runs = (
    may 0 x (omega arith) refl,
    prefix_runs (after q s x) xs zs n (omega arith) (λ i y less at. may (suc i) y (omega arith) at) runs,
  )

  -- some list that agrees begins with the instructions that were run
  begins : CanBegin m q k xs n
  begins =
      let s = state_at q start xs n in
      let here = kept m q k xs n may (IsReached m q k) (reached m q k one) 0 n (omega arith) (omega arith) (starts m q k one) in
      let rest = remaining_in m q k s.phase s.turn s.done in
      let runs = prefix_runs start xs rest n most may (remaining_runs m q k one planned.single planned.allowed s here) in
      (take n xs ++ rest, agrees m q k (take n xs ++ rest) one runs, begins_as xs rest n)

  -- and none continues with an instruction that may not come next
  pub wrong_at : (x : Instr) → slice_get xs n ≡ Some x → (MayRun m q k (state_at q start xs n) x → ⊥) → IsFirstWrong m q k xs n
  wrong_at x at bad = record {
    right = begins;
    wrong = inl (
      slice_get_within xs n x at,
      λ can. (
          let ys = can.0 in
          let here = can.2 n x (omega arith) at in
          let all = (runs_by_index m q k start ys (follows m q k ys one planned.allowed can.1)).0 in
          bad (rw (same_state q start xs ys n most (λ i z less e. can.2 i z (omega arith) e))
          (all n x (slice_get_within ys n x here) here))),
    );
  }

  -- a list that was run to its end agrees if the phase is then `Ended`, and otherwise it ends too early
  pub whole : n ≡ length xs → (state_at q start xs n).phase ≡ Ended → ListAgrees m q k xs
  whole same over = agrees m q k xs one (index_runs m q k start xs (rw same at may) (rw same at over))

  pub too_short : n ≡ length xs → ((state_at q start xs n).phase ≡ Ended → ⊥) → IsFirstWrong m q k xs (length xs)
  too_short same short = rw (sym same) (record {
    right = begins;
    wrong = inr (
      same,
      λ list. short (rw same (runs_by_index m q k start xs (follows m q k xs one planned.allowed list)).1),
    );
  })
