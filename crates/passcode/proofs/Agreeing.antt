-- A list that runs meets the four conditions of agreement.
use Rattle.passcode.proofs.Common
use Common.{ℕ, zero, suc, ◌≡◌, ◌<◌, ◌≤◌, inl, inr, List, [], ◌∷◌, Option, Some, slice_get, length, refl, ap, ◌∙◌, sym}
use Common.{arith, cases_lt, slice_get_within, slice_get-get_or, Has, Item, Production, Rule, Target, Class, item_at}
use Common.{Passes, HasPass, item_passes, Instr, HasPlace, IsAvailableAt, IsChild}
use Common.{IsComputation, ListAgrees, IsRuleAt, OccursBefore, OccursOnceIf, set_or_def, instruction_of, Phase, State}
use Common.{Got, read_count, MayCompute, MayRun, IsTurnOf, Runs, after, arity, place_of, start, state_at, Precedes}
use Common.item
use Common.instr
use Common.Course
use Rattle.passcode.specs.Agreement.{ComputesTargets, HasArguments, VisitsPlaces}
use Rattle.passcode.proofs.Marks.{not_after_end, end_mark, got_child, get_mark, go_mark, put_mark, read_in, read_is}
use Rattle.passcode.proofs.Marks.{of_rule, read_within, rule_mark, run_in, run_is, run_most}
use Rattle.passcode.proofs.States.{IsKept, IsMark, MayRunTo, kept, once, precedes, runs_by_index, occurs, state_next}
use Rattle.passcode.proofs.Turns.{IsTurn, in_order, is_stored_child, its_turn}

-- an attribute of pass 1 or a later one at a place of the right side is a declared symbol's
pub has_symbol : (m : Passes) (q : Production) (o : Target) (k : ℕ) → 1 ≤ k → HasPass m q o k → (s : ℕ)
    × (item_at q o.place ≡ Some (item.Symbol s))
has_symbol m q o k one has = go (item_at q o.place) has
  where
    lex : (a : ℕ) → slice_get (0 ∷ []) a ≡ Some k → ⊥
    lex zero e = let z : 0 ≡ k = cc in omega arith
    lex (suc a) e = cc

    go : (x : Option Item) → slice_get (item_passes m x) o.attr ≡ Some k → (s : ℕ) × (x ≡ Some (item.Symbol s))
    go (Some (item.Symbol s)) e = (s, refl)
    go (Some (item.Terminal (Class c))) e = absurd (lex o.attr e)
    go x e = absurd cc

-- Instruction x was run before state s: its mark holds.
record Was (m : Passes) (q : Production) (k : ℕ) (x : Instr) (s : State) : Type 1 where
  holds_in : State → Type 0
  mark : IsMark m q k holds_in x
  holds : holds_in s

module _ (m : Passes) (q : Production) (k : ℕ) (xs : List Instr) (one : 1 ≤ k) (runs : Runs m q k start xs) where
  abbrev state : ℕ → State
  state n = state_at q start xs n

  abbrev final : State
  final = state (length xs)

  may_to : MayRunTo m q k start xs (length xs)
  may_to = (runs_by_index m q k start xs runs).0

  may : (n : ℕ) (x : Instr) → slice_get xs n ≡ Some x → MayRun m q k (state n) x
  may n x e = may_to n x (slice_get_within xs n x e) e

  -- the mark of an instruction decides what is before an index, and what is in the list at all
  before_it : {x : Instr} (y : Instr) → ((s : State) → MayRun m q k s y → Was m q k x s) → Precedes xs x y
  before_it {x} y was i j a b =
      let it = was (state j) (may j y b) in
      let less = slice_get_within xs j y b in
      precedes m q k xs (length xs) may_to it.mark i j (slice_get_within xs i x a) (omega arith) a it.holds

  occurring : {P : Type 0} {x : Instr} → (Has xs x → P) → (P → Was m q k x final) → OccursOnceIf P xs x
  occurring {P} {x} only was = record {
    there = λ p. (let it = was p in let o = occurs m q k xs (length xs) may_to it.mark (length xs) (omega arith) it.holds in
        (o.0, o.2));
    only = only;
    once = λ i j a b.
        once m q k xs (length xs) may_to (was (only (i, a))).mark i j (slice_get_within xs i x a) (slice_get_within xs j x b) a b;
  }

  -- `End` is last, and there all children are complete and all rules of the pass were run
  end : OccursBefore xs (length xs) instr.End
  end = occurs m q k xs (length xs) may_to (end_mark m q k) (length xs) (omega arith) (runs_by_index m q k start xs runs).1

  last : (n : ℕ) → slice_get xs n ≡ Some instr.End → suc n ≡ length xs
  last n e = elim (cases_lt (suc n) (length xs)) [
    | inl less ↦ absurd (not_after_end m q k (state (suc n)) _
        (may (suc n) _ (slice_get-get_or xs (suc n) instr.End less))
        (rw (state_next m q k start xs n instr.End e)))
    | inr le ↦ (let w = slice_get_within xs n instr.End e in omega arith)
  ]

  done_at : MayRun m q k (state end.0) instr.End
  done_at = may end.0 instr.End end.2

  at_end : final ≡ after q (state end.0) instr.End
  at_end = rw (last end.0 end.2) at (state_next m q k start xs end.0 instr.End end.2)

  all_done : {t j : ℕ} → IsTurn q k t j → (t < final.turn) × (t < read_in final) × (t < run_in final)
  all_done turn = rw at_end (let all = done_at.1 in omega arith)

  place : {s : State} {p : Phase} {j : ℕ} → IsTurnOf q k s p j → HasPlace q j
  place {s} turn = rw turn.place (is_stored_child q k s.turn turn.within)

  -- a kept property holds in each state
  always : (A : State → Type 0) → IsKept m q k A → A start → (n : ℕ) → n ≤ length xs → A (state n)
  always A keep first n most = kept m q k xs (length xs) may_to A keep 0 n (omega arith) most first

  child : (n j : ℕ) → slice_get xs n ≡ Some (instr.Go j) → IsChild q j
  child n j e =
      let turn = (may n (instr.Go j) e).0 in
      let less = slice_get_within xs n (instr.Go j) e in
      rw turn.place (always (λ s. s.phase ≡ Got → IsChild q (place_of q k s.turn)) (got_child m q k) (λ e. absurd cc) n
      (omega arith) turn.phase_is)

  was : {A : State → Type 0} {x : Instr} {s : State} → IsMark m q k A x → A s → Was m q k x s
  was {A} mark holds = record { holds_in = A; mark = mark; holds = holds }

  at_turn : {s : State} {p : Phase} {j : ℕ} → IsTurnOf q k s p j → IsTurn q k s.turn j
  at_turn turn = record { within = turn.within; place = turn.place }

  -- in the phases `Got` and `Gone` the child was read
  got_now : {s : State} {p : Phase} {j : ℕ} → IsTurnOf q k s p j → s.turn < read_count p s.turn → Was m q k (instr.Get j) s
  got_now {s} {p} turn less =
      was (get_mark m q k (at_turn turn)) (let e = read_is s turn.phase_is in omega arith)

  visits : VisitsPlaces q k xs
  visits = record {
    got = λ j. occurring (λ h. place (may h.0 (instr.Get j) h.1)) (λ is. (
        let turn = its_turn q k j is in
        was (get_mark m q k turn.1) (all_done turn.1).1));
    gone = λ j. occurring (λ h. child h.0 j h.1) (λ is. (
        let turn = its_turn q k j (item.Symbol is.0, is.1) in
        was (go_mark m q k turn.1 is) (all_done turn.1).2));
    put = λ j. occurring (λ h. place (may h.0 (instr.Put j) h.1)) (λ is. (
        let turn = its_turn q k j is in
        was (put_mark m q k turn.1) (all_done turn.1).0));
    go_after_get = λ j. before_it (instr.Go j) (λ s may. got_now may.0 (omega arith));
    put_after_go = λ j i n a b. before_it (instr.Put j) (λ s may.
        was (go_mark m q k (at_turn may) (child i j a)) (let e = run_is s may.phase_is in omega arith)) i n a b;
    put_after_get = λ j. before_it (instr.Put j) (λ s may. got_now may (omega arith));
    in_direction = λ i j before n l a b. (
        let first = may n (instr.Put i) a in
        before_it (instr.Get j) (λ s next. was (put_mark m q k (at_turn first))
        ((in_order q k (state n).turn s.turn first.within next.within).1 (rw (first.place, next.place) at before))) n l a b);
  }

  is_own : (i : Instr) → IsComputation i → Has xs i → (r : ℕ) × (u : Rule) × IsRuleAt q r u × (i ≡ instruction_of u r)
  is_own i (zero, a, r, inl e) h = let turn = (may h.0 (instr.Set 0 a r) (h.1 ∙ ap Some e)).0 in
      absurd (let p = turn.place in omega arith)
  is_own i (suc j, a, r, inl e) h = let g = (may h.0 (instr.Set (suc j) a r) (h.1 ∙ ap Some e)).1 in
      (r, g.rule, g.numbered, e ∙ of_rule g)
  is_own i (j, a, r, inr e) h = let g = (may h.0 (instr.Def a r) (h.1 ∙ ap Some e)).1 in
      (r, g.rule, g.numbered, e ∙ of_rule g)

  -- at the index of a rule's own instruction this rule may be run
  module _ (r n : ℕ) {u : Rule} (is : IsRuleAt q r u) (e : slice_get xs n ≡ Some (instruction_of u r)) where
    may_compute : (j a : ℕ) → slice_get xs n ≡ Some (set_or_def j a r) → MayCompute m q k (state n) j a r
    may_compute zero a e = (may n (instr.Def a r) e).1
    may_compute (suc j) a e = (may n (instr.Set (suc j) a r) e).1

    its_own : (g : MayCompute m q k (state n) u.target.place u.target.attr r) × (g.rule ≡ u)
    its_own = let g = may_compute u.target.place u.target.attr e in (g, cc)

  computes : ComputesTargets m q k xs
  computes = record {
    computed = λ r u is. occurring
        (λ h. (let g = its_own r h.0 is h.1 in rw g.1 at g.0.passed))
        (λ has. was (rule_mark m q k r is) (rw at_end (done_at.2 u.target.place r u is refl has)));
    own = is_own;
    after_get = λ j a r. before_it (instr.Set j a r) (λ s may. got_now may.0 (omega arith));
    before_go = before_go;
  }
    where
      before_go : (j a r : ℕ) → Precedes xs (instr.Set j a r) (instr.Go j)
      before_go zero a r i n b c = absurd (let p = (may i (instr.Set 0 a r) b).0.place in omega arith)
      before_go (suc j) a r i n b c =
          let g = (may i (instr.Set (suc j) a r) b).1 in
          before_it (instr.Go (suc j)) (λ s may. was (rule_mark m q k r g.numbered)
          (may.1 r g.rule g.numbered (ap (λ (o : Target). o.place) g.target) g.passed)) i n
          (b ∙ ap Some (of_rule g)) c

  arguments : HasArguments m q k xs
  arguments r n u o is e arg = go (let g = its_own r n is e in g.0.available o (rw (sym g.1) at arg))
    where
      go : Course.IsAvailable m q k (state n) o → IsAvailableAt m q k xs n o
      go (p, has, most, inl less) = inr (inl (p, has, less))
      go (p, has, most, inr (inl own)) = inl own
      go (p, has, most, inr (inr (t, less, here))) = elim (cases_lt p k) [
        | inl low ↦ inr (inl (p, has, low))
        | inr le ↦ (
            let now : HasPass m q o k = (let this : p ≡ k = omega arith in rw this at has) in
            let s = has_symbol m q o k one now in
            let prefix = slice_get_within xs n (instruction_of u r) e in
            let read = always (λ s. read_in s ≤ arity q) (read_within m q k) (omega arith) n (omega arith) in
            let turn : IsTurn q k t o.place = record { within = omega (arith, run_most); place = here } in
            let mark = go_mark m q k turn (s.0, (omega arith, s.1)) in
            inr (inr (now, occurs m q k xs (length xs) may_to mark n (omega arith) less)))
      ]

  pub agrees : ListAgrees m q k xs
  agrees = record {
    visits = visits;
    computes = computes;
    arguments = arguments;
    ends = record { there = (end.0, end.2); last = last };
  }
