-- A list that agrees runs, if each rule may use its arguments.
use Rattle.passcode.proofs.Common
use Common.{ℕ, zero, suc, ◌≡◌, ◌<◌, ◌≤◌, inl, inr, List, Some, slice_get, length, refl, ap, ◌∙◌, sym, subst, arith, cases_eq}
use Common.{slice_get_within, Has, Production, Rule, Target, IsArgument, Passes, HasPass, IsLegalFor}
use Common.{MayUse, Instr, IsAvailableAt, IsChild, IsComputation, ListAgrees, IsRuleAt}
use Common.{Precedes, OccursBefore, OccursOnceIf, set_or_def}
use Common.{instruction_of, Phase, State, Between, Got, Gone, Ended, IsTurnOf, MayCompute, MayRun, Runs, arity}
use Common.{place_of, read_count, run_count, start, state_at}
use Common.item
use Common.instr
use Common.Course
use Rattle.passcode.proofs.Agreeing.{has_symbol}
use Rattle.passcode.proofs.Marks.{end_mark, get_mark, go_mark, got_child, put_mark, read_in, read_is, read_within, run_is}
use Rattle.passcode.proofs.Marks.{rule_mark, run_in}
use Rattle.passcode.proofs.States.{IsMark, MayRunTo, index_runs, kept, marked, occurs}
use Rattle.passcode.proofs.Turns.{IsTurn, in_order, is_stored_child, its_turn}

-- the phase of a node, from the number of children that were read and that of those in which the pass has run
phase_between : (p : Phase) (t : ℕ) → read_count p t ≤ t → (p ≡ Ended → ⊥) → p ≡ Between
phase_between Between t le going = refl
phase_between Ended t le going = absurd (going refl)
phase_between p t le going = absurd (omega arith)

phase_got : (p : Phase) (t u : ℕ) → run_count p t ≤ u → u < read_count p t → (p ≡ Got) × (u ≡ t)
phase_got Got t u le less = (refl, omega arith)
phase_got p t u le less = absurd (omega arith)

phase_gone : (p : Phase) (t u : ℕ) → t ≤ u → u < read_count p t → (p ≡ Got → ⊥) → (p ≡ Gone) × (u ≡ t)
phase_gone Got t u le less apart = absurd (apart refl)
phase_gone Gone t u le less apart = (refl, omega arith)
phase_gone p t u le less apart = absurd (omega arith)

-- an attribute that a rule may use has no later pass
pub may_use_most : (k j i p : ℕ) → MayUse k j i p → p ≤ k
may_use_most k zero i p h = h
may_use_most k (suc j) i p (inl h) = h.1
may_use_most k (suc j) i p (inr (inl h)) = h.1
may_use_most k (suc j) i p (inr (inr less)) = omega arith

-- if a `Set` or `Def` is the instruction of a target and a rule, its numbers are those of the target and of the rule
set_parts : (j a r p b s : ℕ) → instr.Set j a r ≡ set_or_def p b s → (p ≡ j) × (b ≡ a) × (s ≡ r) × (1 ≤ j)
set_parts j a r zero b s e = absurd cc
set_parts j a r (suc p) b s e = let same : suc p ≡ j = cc in (same, cc, cc, omega arith)

def_parts : (a r p b s : ℕ) → instr.Def a r ≡ set_or_def p b s → (p ≡ 0) × (b ≡ a) × (s ≡ r)
def_parts a r zero b s e = (refl, cc, cc)
def_parts a r (suc p) b s e = absurd cc

set_of : (u : Rule) (r j : ℕ) → 1 ≤ j → u.target.place ≡ j → instruction_of u r ≡ instr.Set j u.target.attr r
set_of u r zero least e = absurd (omega arith)
set_of u r (suc j) least e = ap (λ p. set_or_def p u.target.attr r) e

not_end : (j a r : ℕ) → set_or_def j a r ≡ instr.End → ⊥
not_end zero a r e = cc
not_end (suc j) a r e = cc

-- The instruction at index n is x, and each before it may come next.
record At (m : Passes) (q : Production) (k : ℕ) (xs : List Instr) (n : ℕ) (x : Instr) : Type 0 where
  may : MayRunTo m q k start xs n
  is : slice_get xs n ≡ Some x

module _ (m : Passes) (q : Production) (k : ℕ) (xs : List Instr) (one : 1 ≤ k) (allowed : IsLegalFor (HasPass m) q)
    (list : ListAgrees m q k xs) where
  abbrev state : ℕ → State
  state n = state_at q start xs n

  module _ {n : ℕ} {x : Instr} (h : At m q k xs n x) where
    -- the mark of each earlier instruction holds, and that of this one doesn't yet
    was : {A : State → Type 0} {y : Instr} → IsMark m q k A y → Has xs y → Precedes xs y x → A (state n)
    was mark has first = marked m q k xs n h.may mark has.0 n (first has.0 n has.1 h.is) (omega arith) has.1

    first : {P : Type 0} → OccursOnceIf P xs x → OccursBefore xs n x → ⊥
    first it before = let same = it.once before.0 n before.2 h.is in omega arith

    new : {A : State → Type 0} {P : Type 0} → IsMark m q k A x → OccursOnceIf P xs x → A (state n) → ⊥
    new mark it a = first it (occurs m q k xs n h.may mark n (omega arith) a)

    going : (state n).phase ≡ Ended → ⊥
    going e =
        let before = occurs m q k xs n h.may (end_mark m q k) n (omega arith) e in
        let last = list.ends.last before.0 before.2 in
        let within = slice_get_within xs n x h.is in
        omega arith

    -- if the `Get` of a turn's child is before index n, the child was read; likewise for `Put` and rules
    was_read : {t j : ℕ} → IsTurn q k t j → Precedes xs (instr.Get j) x → t < read_in (state n)
    was_read {t} {j} turn = was (get_mark m q k turn)
        ((list.visits.got j).there (rw turn.place (is_stored_child q k t turn.within)))

    was_put : {t j : ℕ} → IsTurn q k t j → Precedes xs (instr.Put j) x → t < (state n).turn
    was_put {t} {j} turn = was (put_mark m q k turn)
        ((list.visits.put j).there (rw turn.place (is_stored_child q k t turn.within)))

    was_given : (r : ℕ) (u : Rule) → IsRuleAt q r u → HasPass m q u.target k → Precedes xs (instruction_of u r) x
        → Has (state n).done r
    was_given r u at passed = was (rule_mark m q k r at) ((list.computes.computed r u at).there passed)

    turn_here : {t j : ℕ} → IsTurn q k t j → (p : Phase) → (state n).phase ≡ p → t ≡ (state n).turn → IsTurnOf q k (state n) p j
    turn_here turn p phase same = record { phase_is = phase; within = rw same at turn.within; place = rw same at turn.place }

    -- an argument that is available at index n (`IsAvailableAt`) is available in the state before n (`IsAvailable`)
    hand : (r : ℕ) (u : Rule) → IsRuleAt q r u → HasPass m q u.target k → (o : Target) → IsArgument u o
        → IsAvailableAt m q k xs n o → Course.IsAvailable m q k (state n) o
    hand r u at passed o arg (inl own) = let p = allowed u o k (r, at) arg passed in
        (p.0, p.1, may_use_most k u.target.place o.place p.0 p.2, inr (inl own))
    hand r u at passed o arg (inr (inl (p, has, low))) = (p, has, omega arith, inl low)
    hand r u at passed o arg (inr (inr (has, (i, less, go)))) =
        let child = (list.visits.gone o.place).only (i, go) in
        let turn = its_turn q k o.place (item.Symbol child.0, child.1) in
        let run = marked m q k xs n h.may (go_mark m q k turn.1 child) i n less (omega arith) go in
        (k, has, omega arith, inr (inr (turn.0, run, turn.1.place)))

    -- at the instruction of a rule the rule may be run
    may_compute : IsComputation x → (r : ℕ) × (u : Rule) × HasPass m q u.target k × (x ≡ instruction_of u r)
        × MayCompute m q k (state n) u.target.place u.target.attr r
    may_compute is =
        let own = list.computes.own x is (n, h.is) in
        let once = list.computes.computed own.0 own.1 own.2 in
        let here = h.is ∙ ap Some own.3 in
        let passed = once.only (n, here) in (
          own.0,
          own.1,
          passed,
          own.3,
          record {
            rule = own.1;
            numbered = own.2;
            target = refl;
            passed = passed;
            available = λ o arg. hand own.0 own.1 own.2 passed o arg (list.arguments own.0 n own.1 o own.2 here arg);
            fresh = new (rw (sym own.3) at (rule_mark m q k own.0 own.2)) (rw (sym own.3) at once);
          },
        )

    -- if a child was read and the pass has not run in it, it is the child's turn, in the phase `Got`
    got_turn : (j : ℕ) → IsChild q j → Precedes xs (instr.Get j) x → (OccursBefore xs n (instr.Go j) → ⊥)
        → IsTurnOf q k (state n) Got j
    got_turn j child get go =
        let turn = its_turn q k j (item.Symbol child.0, child.1) in
        let never = λ (less : turn.0 < run_in (state n)).
        go (occurs m q k xs n h.may (go_mark m q k turn.1 child) n (omega arith) less) in
        let phase = phase_got (state n).phase (state n).turn turn.0 (omega arith) (was_read turn.1 get) in
        turn_here turn.1 Got phase.0 phase.1

  module _ (n : ℕ) where
    abbrev now : State
    now = state n

    step : (x : Instr) → At m q k xs n x → MayRun m q k now x
    step (instr.Get j) h =
        let a = low in
        let b = high in
        let phase = phase_between now.phase now.turn (omega arith) (going h) in
        let count = read_is now phase in
        turn_here h turn.1 Between phase (omega arith)
      where
        turn : (t : ℕ) × IsTurn q k t j
        turn = its_turn q k j ((list.visits.got j).only (n, h.is))

        low : turn.0 < read_in now → ⊥
        low = new h (get_mark m q k turn.1) (list.visits.got j)

        high : now.turn < turn.0 → ⊥
        high less =
            let within = turn.1.within in
            let here : IsTurn q k now.turn (place_of q k now.turn) = record { within = omega arith; place = refl } in
            let put = was_put h here (list.visits.in_direction (place_of q k now.turn) j
            (rw turn.1.place ((in_order q k now.turn turn.0 here.within within).0 less))) in
            omega arith
    step (instr.Set j a r) h =
        let own = may_compute h (j, a, r, inl refl) in
        let parts = set_parts j a r own.1.target.place own.1.target.attr own.0 own.3 in
        let symbol = rw parts.0 at (has_symbol m q own.1.target k one own.2) in
        let go = λ (go : OccursBefore xs n (instr.Go j)).
        (let after = list.computes.before_go j a r n go.0 h.is go.2 in let bad : ⊥ = omega arith in bad) in (
          got_turn h j (symbol.0, (parts.3, symbol.1)) (list.computes.after_get j a r) go,
          rw (parts.0, parts.1, parts.2) at own.4,
        )
    step (instr.Def a r) h =
        let own = may_compute h (0, a, r, inr refl) in
        let parts = def_parts a r own.1.target.place own.1.target.attr own.0 own.3 in
        (going h, rw (parts.0, parts.1, parts.2) at own.4)
    step (instr.Go j) h = (
      got_turn h j child (list.visits.go_after_get j)
          (first h (list.visits.gone j)),
      λ r u at here passed. was_given h r u at passed
          (rw (set_of u r j child.1.0 here) (list.computes.before_go j u.target.attr r)),
    )
      where
        child : IsChild q j
        child = (list.visits.gone j).only (n, h.is)
    step (instr.Put j) h =
        let phase = phase_gone now.phase now.turn turn.0 (let a = low in omega arith) read not_got in
        turn_here h turn.1 Gone phase.0 phase.1
      where
        turn : (t : ℕ) × IsTurn q k t j
        turn = its_turn q k j ((list.visits.put j).only (n, h.is))

        low : turn.0 < now.turn → ⊥
        low = new h (put_mark m q k turn.1) (list.visits.put j)

        read : turn.0 < read_in now
        read = was_read h turn.1 (list.visits.put_after_get j)

        -- the phase is not `Got`: the child is a symbol's node, and the pass has run in it
        not_got : now.phase ≡ Got → ⊥
        not_got e =
            let count = read_is now e in
            let less = read in
            let least = low in
            let same : now.turn ≡ turn.0 = omega arith in
            let here = kept m q k xs n h.may (λ s. s.phase ≡ Got → IsChild q (place_of q k s.turn)) (got_child m q k) 0 n
            (omega arith) (omega arith) (λ e. absurd cc) e in
            let child = subst (IsChild q) (ap (place_of q k) same ∙ sym turn.1.place) here in
            let run =
            was h (go_mark m q k turn.1 child) ((list.visits.gone j).there child) (list.visits.put_after_go j) in
            let none = run_is now e in
            omega arith
    step instr.End h =
        let most = kept m q k xs n h.may (λ s. read_in s ≤ arity q) (read_within m q k) 0 n (omega arith) (omega arith)
        (omega arith) in
        let put = all_put in
        let phase = phase_between now.phase now.turn (omega arith) (going h) in
        let count = read_is now phase in (
          phase,
          omega arith,
          λ j r u at here passed. was_given h r u at passed
              (prefix (instruction_of u r) (not_end u.target.place u.target.attr r)),
        )
      where
        -- every other instruction of the list is before `End`
        prefix : (x : Instr) → (x ≡ instr.End → ⊥) → Precedes xs x instr.End
        prefix x other i l e end = elim (cases_eq i l) [
          | inl same ↦ absurd (other (let here = rw same at e in cc))
          | inr apart ↦ (let last = list.ends.last l end in let within = slice_get_within xs i x e in omega arith)
        ]

        all_put : now.turn < arity q → ⊥
        all_put less =
            let put = was_put h (record { within = less; place = refl })
            (prefix (instr.Put (place_of q k now.turn)) (λ e. cc)) in
            omega arith

  may_to : (n : ℕ) → MayRunTo m q k start xs n
  may_to zero i x less is = absurd (omega arith)
  may_to (suc n) i x less is = elim (cases_eq i n) [
    | inl same ↦ rw same (step n x (record { may = may_to n; is = rw same at is }))
    | inr other ↦ may_to n i x (omega arith) is
  ]

  pub follows : Runs m q k start xs
  follows =
      let end = list.ends.there in
      let all = may_to (length xs) in
      index_runs m q k start xs all (marked m q k xs (length xs) all (end_mark m q k) end.0 (length xs)
      (slice_get_within xs end.0 instr.End end.1) (omega arith) end.1)
