-- The states before the indexes of a list, and properties that begin at an instruction and stay true.
use Rattle.passcode.proofs.Common
use Common.{ℕ, zero, suc, ◌≡◌, ◌<◌, ◌≤◌, ◌⊎◌, inl, inr, List, [], ◌∷◌, Some, slice_get, length, refl, ap, ◌∙◌}
use Common.{arith, cases_eq, cases_lt, Production, Passes, Instr, OccursBefore, State, Ended, MayRun, Runs, after, start}
use Common.{state_at}

further : (xs : List Instr) (n : ℕ) (x : Instr) → OccursBefore xs n x → OccursBefore xs (suc n) x
further xs n x s = (s.0, omega arith, s.2)

module _ (m : Passes) (q : Production) (k : ℕ) where
  -- each of the first n instructions of a list may come next at its index
  abbrev pub MayRunTo : State → List Instr → ℕ → Type 0
  MayRunTo s xs n = (i : ℕ) (x : Instr) → i < n → slice_get xs i ≡ Some x → MayRun m q k (state_at q s xs i) x

  pub state_next : (s : State) (xs : List Instr) (n : ℕ) (x : Instr) → slice_get xs n ≡ Some x
      → state_at q s xs (suc n) ≡ after q (state_at q s xs n) x
  state_next s [] n x e = absurd cc
  state_next s (y ∷ xs) zero x e = let same : y ≡ x = cc in ap (after q s) same
  state_next s (y ∷ xs) (suc n) x e = state_next (after q s y) xs n x e

  -- the next state is the same after the end of the list, and otherwise that after the instruction
  at_next : (A : State → Type 0) (s : State) (xs : List Instr) (n : ℕ) → A (state_at q s xs n)
      → ((x : Instr) → slice_get xs n ≡ Some x → A (after q (state_at q s xs n) x)) → A (state_at q s xs (suc n))
  at_next A s [] zero a next = a
  at_next A s [] (suc n) a next = a
  at_next A s (x ∷ xs) zero a next = next x refl
  at_next A s (x ∷ xs) (suc n) a next = at_next A (after q s x) xs n a next

  may_more : (s : State) (x : Instr) (xs : List Instr) → MayRun m q k s x → MayRunTo (after q s x) xs (length xs)
      → MayRunTo s (x ∷ xs) (length (x ∷ xs))
  may_more s x xs here rest zero y less at = let same : x ≡ y = cc in rw same at here
  may_more s x xs here rest (suc i) y less at = rest i y (omega arith) at

  -- a list runs if each of its instructions may come next, and the node is at its end after them
  pub runs_by_index : (s : State) (xs : List Instr) → Runs m q k s xs → MayRunTo s xs (length xs)
      × ((state_at q s xs (length xs)).phase ≡ Ended)
  runs_by_index s [] e = ((λ i x less at. absurd (omega arith)), e)
  runs_by_index s (x ∷ xs) h = let rest = runs_by_index (after q s x) xs h.1 in (may_more s x xs h.0 rest.0, rest.1)

  pub index_runs : (s : State) (xs : List Instr) → MayRunTo s xs (length xs) → (state_at q s xs (length xs)).phase ≡ Ended
      → Runs m q k s xs
  index_runs s [] each e = e
  index_runs s (x ∷ xs) each e =
      (each 0 x (omega arith) refl, index_runs (after q s x) xs (λ i y less. each (suc i) y (omega arith)) e)

  -- A property of states that each instruction that may come next keeps.
  abbrev pub IsKept : (State → Type 0) → Type 0
  IsKept A = (s : State) (x : Instr) → MayRun m q k s x → A s → A (after q s x)

  module _ (xs : List Instr) (n : ℕ) (may : MayRunTo start xs n) where
    pub kept : (A : State → Type 0) → IsKept A → (i j : ℕ) → i ≤ j → j ≤ n → A (state_at q start xs i) → A (state_at q start xs j)
    kept A keep i zero le most a = let same : i ≡ 0 = omega arith in rw same at a
    kept A keep i (suc j) le most a = elim (cases_eq i (suc j)) [
      | inl same ↦ rw same at a
      | inr other ↦ (let was = kept A keep i j (omega arith) (omega arith) a in
          at_next A start xs j was (λ x at. keep (state_at q start xs j) x (may j x most at) was))
    ]

  -- A mark of an instruction: a property of states that holds exactly from the instruction on.
  pub record IsMark (A : State → Type 0) (x : Instr) : Type 0 where
    pub none : A start → ⊥
    pub stays : IsKept A
    pub made : (s : State) → MayRun m q k s x → A (after q s x)
    pub before : (s : State) → MayRun m q k s x → A s → ⊥
    pub only : (s : State) (y : Instr) → MayRun m q k s y → A (after q s y) → A s ⊎ (y ≡ x)

  module _ (xs : List Instr) (n : ℕ) (may : MayRunTo start xs n) {A : State → Type 0} {x : Instr} (mark : IsMark A x) where
    -- if the mark holds before an index, the instruction occurs before that index
    pub occurs : (j : ℕ) → j ≤ n → A (state_at q start xs j) → OccursBefore xs j x
    occurs zero most a = absurd (mark.none a)
    occurs (suc j) most a =
        let earlier = λ (was : A (state_at q start xs j)). further xs j x (occurs j (omega arith) was) in
        at_next (λ s. A s → OccursBefore xs (suc j) x) start xs j earlier
        (λ y at a. elim (mark.only (state_at q start xs j) y (may j y most at) a) [
          | inl was ↦ earlier was
          | inr same ↦ (j, omega arith, at ∙ ap Some same)
        ]) a

    -- after the instruction the mark holds
    pub marked : (i j : ℕ) → i < j → j ≤ n → slice_get xs i ≡ Some x → A (state_at q start xs j)
    marked i j less most at =
        kept xs n may A mark.stays (suc i) j less most
        (rw (state_next start xs i x at) (mark.made (state_at q start xs i) (may i x (omega arith) at)))

    -- the instruction occurs before each index at which the mark holds
    pub precedes : (i j : ℕ) → i < n → j ≤ n → slice_get xs i ≡ Some x → A (state_at q start xs j) → i < j
    precedes i j a b at there = elim (cases_lt i j) [
      | inl less ↦ less
      | inr le ↦ absurd
          (mark.before (state_at q start xs i) (may i x a at) (kept xs n may A mark.stays j i le (omega arith) there))
    ]

    -- the instruction occurs at most once
    pub once : (i j : ℕ) → i < n → j < n → slice_get xs i ≡ Some x → slice_get xs j ≡ Some x → i ≡ j
    once i j a b at at' =
        let first = precedes i (suc j) a b at (marked j (suc j) (omega arith) b at') in
        let next = precedes j (suc i) b a at' (marked i (suc i) (omega arith) a at) in
        omega arith
