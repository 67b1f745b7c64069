-- The marks of instructions: the numbers of children that were read, in which the pass has run, and that are complete; the rules
-- that were run; and the end.
use Rattle.passcode.proofs.Common
use Common.{Target, ℕ, zero, suc, ◌≡◌, ◌<◌, ◌≤◌, ◌⊎◌, inl, inr, [], Option, Some, slice_get, refl, ap, ◌∙◌, sym, subst, arith}
use Common.{cases_eq, Has, Item, Production, Rule, item_at, Passes, Instr, IsChild, IsRuleAt, set_or_def, instruction_of, Phase}
use Common.{State, Got, Ended, MayCompute, MayRun, after, after_get, arity, place_of, read_count, run_count, start}
use Common.item
use Common.instr
use Rattle.passcode.proofs.States.{IsKept, IsMark}
use Rattle.passcode.proofs.Turns.{IsTurn, one_turn}

-- the number of a node's children that were read in a state, and the number of those in which the pass has run
abbrev pub read_in : State → ℕ
read_in s = read_count s.phase s.turn

abbrev pub run_in : State → ℕ
run_in s = run_count s.phase s.turn

pub read_is : (s : State) {p : Phase} → s.phase ≡ p → read_in s ≡ read_count p s.turn
read_is s e = ap (λ p. read_count p s.turn) e

pub run_is : (s : State) {p : Phase} → s.phase ≡ p → run_in s ≡ run_count p s.turn
run_is s e = ap (λ p. run_count p s.turn) e

read_after : (o : Option Item) (t : ℕ) → read_count (after_get o) t ≡ suc t
read_after (Some (item.Symbol s)) t = refl
read_after o t = refl

pub run_after : (o : Option Item) (t : ℕ) → (t ≤ run_count (after_get o) t) × (run_count (after_get o) t ≤ suc t)
run_after (Some (item.Symbol s)) t = (omega arith, omega arith)
run_after o t = (omega arith, omega arith)

-- the pass has run only in children that were read
pub run_most : (s : State) → run_in s ≤ read_in s
run_most s = go s.phase
  where
    go : (p : Phase) → run_count p s.turn ≤ read_count p s.turn
    go Got = omega arith
    go p = omega arith

not_ended : (o : Option Item) → after_get o ≡ Ended → ⊥
not_ended (Some (item.Symbol s)) e = cc
not_ended o e = cc

got_symbol : (o : Option Item) → after_get o ≡ Got → (s : ℕ) × (o ≡ Some (item.Symbol s))
got_symbol (Some (item.Symbol s)) e = (s, refl)
got_symbol o e = absurd cc

-- the attribute with number a at place j
abbrev pub target_at : ℕ → ℕ → Target
target_at j a = record { place = j; attr = a }

-- the rule that may be run has its own instruction
pub of_rule : {m : Passes} {q : Production} {k : ℕ} {s : State} {j a r : ℕ} (g : MayCompute m q k s j a r)
    → set_or_def j a r ≡ instruction_of g.rule r
of_rule g = cc

module _ (m : Passes) (q : Production) (k : ℕ) where
  -- each instruction leaves a counter, or raises it by one from the turn's number
  abbrev Steps : (ℕ → Type 0) → (State → ℕ) → (ℕ → Instr) → Type 0
  Steps P f x = (s : State) (y : Instr) → MayRun m q k s y → (f (after q s y) ≡ f s)
      ⊎ ((f s ≡ s.turn) × (f (after q s y) ≡ suc s.turn) × (P (place_of q k s.turn) → y ≡ x (place_of q k s.turn)))

  -- A counter: it begins at 0, and rises by one from the turn's number. At a place with property P only the instruction x of that
  -- place raises it.
  record IsCounter (P : ℕ → Type 0) (f : State → ℕ) (x : ℕ → Instr) : Type 0 where
    first : f start ≡ 0
    steps : Steps P f x
    takes : (s : State) (j : ℕ) → MayRun m q k s (x j) → (s.turn < arity q) × (j ≡ place_of q k s.turn) × (f s ≡ s.turn)
        × (f (after q s (x j)) ≡ suc s.turn)

  -- "the counter is above t" is the mark of the instruction x of turn t's place
  counter_mark : {P : ℕ → Type 0} {f : State → ℕ} {x : ℕ → Instr} → IsCounter P f x → {t j : ℕ} → IsTurn q k t j → P j
      → IsMark m q k (λ s. t < f s) (x j)
  counter_mark {P} {f} {x} counter {t} {j} turn here = record {
    none = omega arith;
    stays = λ s y may less. (let step = counter.steps s y may in omega arith);
    made = λ s may. (let h = raises s may in omega arith);
    before = λ s may. (let h = raises s may in omega arith);
    only = λ s y may less. elim (counter.steps s y may) [
      | inl e ↦ inl (omega arith)
      | inr h ↦ elim (cases_eq t s.turn) [
        | inl same ↦ (let place = turn.place ∙ ap (place_of q k) same in inr (h.2 (rw place at here) ∙ ap x (sym place)))
        | inr other ↦ inl (omega arith)
      ]
    ];
  }
    where
      raises : (s : State) → MayRun m q k s (x j) → (f s ≡ t) × (f (after q s (x j)) ≡ suc t)
      raises s may =
          let h = counter.takes s j may in
          let same = one_turn q k t s.turn turn.within h.0 (sym turn.place ∙ h.1) in
          omega arith

  abbrev Any : ℕ → Type 0
  Any j = Unit {0}

  reads : IsCounter Any read_in instr.Get
  reads = record {
    first = refl;
    steps = steps;
    takes = λ s j may. (may.within, may.place, read_is s may.phase_is, read_after (item_at q j) s.turn);
  }
    where
      steps : Steps Any read_in instr.Get
      steps s (instr.Get j) may = inr
          (read_is s may.phase_is, read_after (item_at q j) s.turn, λ u. ap instr.Get may.place)
      steps s (instr.Go j) may = inl (sym (read_is s may.0.phase_is))
      steps s (instr.Put j) may = inl (sym (read_is s may.phase_is))
      steps s instr.End may = inl (sym (read_is s may.0))
      steps s x may = inl refl

  puts : IsCounter Any (λ s. s.turn) instr.Put
  puts = record { first = refl; steps = steps; takes = λ s j may. (may.within, may.place, refl, refl) }
    where
      steps : Steps Any (λ s. s.turn) instr.Put
      steps s (instr.Put j) may = inr (refl, refl, λ u. ap instr.Put may.place)
      steps s x may = inl refl

  runs : IsCounter (IsChild q) run_in instr.Go
  runs = record { first = refl; steps = steps; takes = λ s j may. (may.0.within, may.0.place, run_is s may.0.phase_is, refl) }
    where
      by_item : (s : State) (j : ℕ) → MayRun m q k s (instr.Get j) → (o : Option Item) → item_at q j ≡ o
          → (run_count (after_get o) s.turn ≡ run_in s)
          ⊎ ((run_in s ≡ s.turn) × (run_count (after_get o) s.turn ≡ suc s.turn)
          × (IsChild q (place_of q k s.turn) → instr.Get j ≡ instr.Go (place_of q k s.turn)))
      by_item s j may (Some (item.Symbol x)) e = inl (sym (run_is s may.phase_is))
      by_item s j may o e = inr
          (run_is s may.phase_is, refl, λ child. absurd (let here = rw may.place at e in cc))

      steps : Steps (IsChild q) run_in instr.Go
      steps s (instr.Get j) may = by_item s j may (item_at q j) refl
      steps s (instr.Go j) may = inr (run_is s may.0.phase_is, refl, λ child. ap instr.Go may.0.place)
      steps s (instr.Put j) may = inl (sym (run_is s may.phase_is))
      steps s instr.End may = inl (sym (run_is s may.0))
      steps s x may = inl refl

  pub get_mark : {t j : ℕ} → IsTurn q k t j → IsMark m q k (λ s. t < read_in s) (instr.Get j)
  get_mark turn = counter_mark reads turn tt

  pub put_mark : {t j : ℕ} → IsTurn q k t j → IsMark m q k (λ s. t < s.turn) (instr.Put j)
  put_mark turn = counter_mark puts turn tt

  pub go_mark : {t j : ℕ} → IsTurn q k t j → IsChild q j → IsMark m q k (λ s. t < run_in s) (instr.Go j)
  go_mark = counter_mark runs

  -- no instruction may come after the end
  pub not_after_end : (s : State) (x : Instr) → MayRun m q k s x → s.phase ≡ Ended → ⊥
  not_after_end s (instr.Def a r) may e = may.0 e
  not_after_end s x may e = cc

  pub end_mark : IsMark m q k (λ s. s.phase ≡ Ended) instr.End
  end_mark = record {
    none = λ e. (cc);
    stays = λ s x may e. absurd (not_after_end s x may e);
    made = λ s may. refl;
    before = λ s. not_after_end s instr.End;
    only = only;
  }
    where
      only : (s : State) (y : Instr) → MayRun m q k s y → (after q s y).phase ≡ Ended → (s.phase ≡ Ended) ⊎ (y ≡ instr.End)
      only s (instr.Get j) may e = absurd (not_ended (item_at q j) e)
      only s (instr.Go j) may e = absurd cc
      only s (instr.Put j) may e = absurd cc
      only s instr.End may e = inr refl
      only s x may e = inl e

  -- in the phase `Got` the current child is a declared symbol's node
  pub got_child : IsKept m q k (λ s. s.phase ≡ Got → IsChild q (place_of q k s.turn))
  got_child s (instr.Get j) may was e = let x = got_symbol (item_at q j) e in
      subst (IsChild q) may.place (x.0, (omega arith, x.1))
  got_child s (instr.Set j a r) may was e = was e
  got_child s (instr.Def a r) may was e = was e
  got_child s x may was e = absurd cc

  -- no more children are read than there are
  pub read_within : IsKept m q k (λ s. read_in s ≤ arity q)
  read_within s (instr.Get j) may le = omega (arith, read_after)
  read_within s x may le = omega arith

  -- the own instruction of a rule
  module _ (r : ℕ) {u : Rule} (at : IsRuleAt q r u) where
    own : (s : State) (j a n : ℕ) → MayCompute m q k s j a n → n ≡ r → set_or_def j a n ≡ instruction_of u r
    own s j a n computes same = let rule : computes.rule ≡ u = cc in of_rule computes ∙ rw (rule, same)

    pub rule_mark : IsMark m q k (λ s. Has s.done r) (instruction_of u r)
    rule_mark = record {
      none = λ h. (let e : slice_get {X = ℕ} [] h.0 ≡ Some r = h.1 in cc);
      stays = stays;
      made = λ s may. (runs_it u.target.place u.target.attr s may).0;
      before = λ s may. (runs_it u.target.place u.target.attr s may).1;
      only = only;
    }
      where
        stays : IsKept m q k (λ s. Has s.done r)
        stays s (instr.Set j a n) may h = (suc h.0, h.1)
        stays s (instr.Def a n) may h = (suc h.0, h.1)
        stays s x may h = h

        runs_it : (j a : ℕ) (s : State) → MayRun m q k s (set_or_def j a r) → Has (after q s (set_or_def j a r)).done r
            × (Has s.done r → ⊥)
        runs_it zero a s may = ((0, refl), may.1.fresh)
        runs_it (suc j) a s may = ((0, refl), may.1.fresh)

        only : (s : State) (y : Instr) → MayRun m q k s y → Has (after q s y).done r → Has s.done r ⊎ (y ≡ instruction_of u r)
        only s (instr.Set j a n) may (suc i, e) = inl (i, e)
        only s (instr.Set zero a n) may (zero, e) = absurd (omega arith)
        only s (instr.Set (suc j) a n) may (zero, e) = inr (own s (suc j) a n may.1 cc)
        only s (instr.Def a n) may (suc i, e) = inl (i, e)
        only s (instr.Def a n) may (zero, e) = inr (own s 0 a n may.1 cc)
        only s x may h = inl h
