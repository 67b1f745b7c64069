-- The strikes of the passes made so far.
use Rattle.passassign.proofs.Common
use Common.{ℕ, suc, ◌≡◌, ◌+◌, ◌/◌, ◌%◌, ◌<◌, ◌≤◌, ◌⊎◌, ◌++◌, inl, inr, List, [], ◌∷◌, Some, slice_get, length, refl, ap, sym}
use Common.{arith, cases_lt, get_or_past, slice_get_within, slice_get-get_or, get_or_from_slice_get, length-append, Has, Grammar}
use Common.{symbol_kinds, IsLegal, direction_of, counterpart, PassesSoFar, Dependency, Strike, State, Absent, Open, Assigned}
use Common.{IsStruckBy, StrikesExactly, Partial, partial_of, IsOpen, IsPass, IsMade, HasPassFrom, HasPassAfter, AreStrikesAt}
use Common.{AreStrikesOf, HasNoPassBelow, HasNoPassUpTo, AreStrikesSoFar, IsLastInUse, IsProgress, IsNext, open_count, passes_of}
use Common.{slot_of, state_at, state_of, pass_of_state, table_passes}
use Rattle.passassign.proofs.slots.Linked.{open_there, state_in}
use Rattle.passassign.proofs.slots.Lists.{get_push_cases}
use Rattle.passassign.proofs.slots.Options.{none_of}
use Rattle.passassign.proofs.making.Made.{made_before, old_or_new}
use Rattle.passassign.proofs.making.Refusing.{bit, open_step}
use Rattle.passassign.proofs.strikes.Exactly.{are_good_more, exactly_same}
use Rattle.passassign.proofs.strikes.Following.{strikes_open}
use Rattle.passassign.proofs.strikes.Reasons.{AreWithin}

module _ {g : Grammar} {k : ℕ} {m after : Partial} {strikes : List Strike} (made : IsMade g k m)
    (pass : IsPass g k m after strikes) where
  -- if an attribute has no pass before j in m, it has none before j after pass k
  none_below : (j : ℕ) → j ≤ k → AreWithin (HasNoPassBelow g m j) (HasNoPassBelow g after j)
  none_below j le s a i = (
    i.0,
    λ p e. elim (old_or_new pass s a p e) [
      | inl old ↦ i.1 p old
      | inr new ↦ omega arith
    ],
  )

  -- a candidate has no pass before this one
  candidate : AreWithin (IsOpen g m) (HasNoPassBelow g after k)
  candidate s a i = (i.0, λ p e. omega (arith, (pass.gained s a p i.1 e).1))

  -- and a struck attribute has no pass up to this one
  left : AreWithin (IsStruckBy strikes) (HasNoPassUpTo g after k)
  left s a hit =
      let i = strikes_open g (direction_of k) (IsOpen g m) [] strikes pass.good s a hit in
      (i.0, λ p e. absurd ((pass.gained s a p i.1 e).2 hit))

  struck : AreWithin (HasNoPassUpTo g after k) (IsStruckBy strikes)
  struck s a i =
      let none =
      none_of (m s a) (λ p e. omega (arith, made_before made s a p e, i.1 p (pass.kept s a p e))) in
      pass.left s a (i.0, none)
      (none_of (after s a) (λ p e. omega (arith, (pass.gained s a p none e).1, i.1 p e)))

  new_list : StrikesExactly g (direction_of k) (HasNoPassBelow g after k) (HasNoPassUpTo g after k) strikes
  new_list = record {
    good = are_good_more g (direction_of k) {some = IsOpen g m} candidate [] strikes pass.good;
    all = struck;
    only = left;
  }

  so_far_more : (lists : List (List Strike)) → AreStrikesSoFar g k m lists
      → AreStrikesSoFar g (k + 1) after (lists ++ strikes ∷ [])
  so_far_more lists h = record { count = count; each = each }
    where
      count : length (lists ++ strikes ∷ []) + 1 ≡ k + 1
      count = omega (arith, length-append lists (strikes ∷ []))

      each : (i : ℕ) (xs : List Strike) → slice_get (lists ++ strikes ∷ []) i ≡ Some xs
          → StrikesExactly g (direction_of (i + 1)) (HasNoPassBelow g after (i + 1)) (HasNoPassUpTo g after (i + 1)) xs
      each i xs e = elim (get_push_cases lists strikes xs i e) [
        | inl old ↦ (
            let w = slice_get_within lists i xs old in
            let n = h.count in
            exactly_same (h.each i xs old) (none_below (i + 1) (omega arith)) (none_below (suc (i + 1)) (omega arith))
            (λ s a none. (none.0, λ p f. none.1 p (pass.kept s a p f))))
        | inr new ↦ (
            let at = new.0 in
            let n = h.count in
            let here : k ≡ i + 1 = omega arith in
            rw (← here, ← new.1) new_list)
      ]

-- before the first pass there are none
pub none_so_far : {g : Grammar} {m : Partial} → AreStrikesSoFar g 1 m []
none_so_far = record { count = refl; each = λ i xs e. cc }

pub so_far_next : {g : Grammar} {all : List Dependency} {old new : PassesSoFar} {strikes : List Strike}
    {lists more : List (List Strike)} → IsProgress g all old → IsNext g all old new strikes → new.next ≡ old.next + 1
    → more ≡ lists ++ strikes ∷ [] → AreStrikesSoFar g old.next (table_passes old.states.items) lists
    → AreStrikesSoFar g new.next (table_passes new.states.items) more
so_far_next {lists = lists} before next one e h = rw (one, e) (so_far_more before.made next.pass lists h)

-- if fewer states are open in a second list than in a first: x is open and y is not, or fewer are open among the rest
first_given : (x y : State) (m n : ℕ) → bit y + n < bit x + m → ((x ≡ Open) × (y ≡ Open → ⊥)) ⊎ (n < m)
first_given Open Open m n lt = inr (omega arith)
first_given Open Absent m n lt = inl (refl, λ o. cc)
first_given Open (Assigned p) m n lt = inl (refl, λ o. cc)
first_given Absent y m n lt = inr (omega arith)
first_given (Assigned p) y m n lt = inr (omega arith)

-- if fewer slots are open in the table ys than in xs, some slot is open in xs and not in ys
some_given : (xs ys : List State) → length ys ≡ length xs → open_count ys < open_count xs
    → (i : ℕ) × (state_at xs i ≡ Open) × (state_at ys i ≡ Open → ⊥)
some_given (x ∷ xs) (y ∷ ys) len lt =
    elim (first_given x y (open_count xs) (open_count ys) (omega (arith, open_step x xs, open_step y ys))) [
      | inl h ↦ (0, h.0, h.1)
      | inr less ↦ (let w = some_given xs ys (omega arith) less in (suc w.0, w.1, w.2))
    ]
some_given _ _ len lt = absurd (omega arith)

-- if a pass leaves fewer attributes open, some attribute has this pass
module _ {g : Grammar} {all : List Dependency} {old new : PassesSoFar} {strikes : List Strike} (before : IsProgress g all old)
    (next : IsNext g all old new strikes) (len : length new.states.items ≡ length old.states.items)
    (one : new.next ≡ old.next + 1) (less : open_count new.states.items < open_count old.states.items) where
  given_here : (s a : ℕ) → IsOpen g (table_passes old.states.items) s a → a < 16
      → (state_at new.states.items (slot_of s a) ≡ Open → ⊥) → (x : State) → state_of new.states.items s a ≡ x
      → IsLastInUse new.next (table_passes new.states.items)
  given_here s a i lt shut Absent e = absurd ((next.progress.of.table.there s a).1 i.0 e)
  given_here s a i lt shut Open e = absurd (shut (cc (state_in new.states.items s a lt)))
  given_here s a i lt shut (Assigned p) e =
      let has : table_passes new.states.items s a ≡ Some p = ap pass_of_state e in
      let same : p ≡ old.next = (next.pass.gained s a p i.1 has).1 in
      (p, s, a, cc, has)

  pub last_in_use : IsLastInUse new.next (table_passes new.states.items)
  last_in_use =
      let w = some_given old.states.items new.states.items len less in
      let s = w.0 / 16 in
      let a = w.0 % 16 in
      let at : slot_of s a ≡ w.0 = omega arith in
      let small : a < 16 = omega arith in
      given_here s a (open_there before.of s a small (rw at w.1)) small (rw at w.2)
      (state_of new.states.items s a) refl

-- If every attribute has a pass, the strikes made so far are those of the assignment.
module _ (g : Grammar) (rows : List (List ℕ)) {next : ℕ} {m : Partial} {lists : List (List Strike)}
    (legal : IsLegal g (passes_of rows)) (is : (s a : ℕ) → partial_of (passes_of rows) s a ≡ m s a) (made : IsMade g next m)
    (so_far : AreStrikesSoFar g next m lists) (last : (next ≡ 1) ⊎ IsLastInUse next m) where
  none_from : (k : ℕ) → AreWithin (HasNoPassBelow g m k) (HasPassFrom (passes_of rows) k)
  none_from k s a i =
      let (p, e) = counterpart (symbol_kinds (slice_get g.symbols s)) (passes_of rows s) a i.0.0 (sym (legal.whole s)) i.0.1 in
      (p, e, i.1 p (cc (is s a)))

  after_none : (k : ℕ) → AreWithin (HasPassAfter (passes_of rows) k) (HasNoPassUpTo g m k)
  after_none k s a (q, e, low) = (
    counterpart (passes_of rows s) (symbol_kinds (slice_get g.symbols s)) a q (legal.whole s) e,
    λ p f. let same : q ≡ p = cc (is s a) in omega arith,
  )

  each_strikes : (i : ℕ) (xs : List Strike) → slice_get lists i ≡ Some xs → AreStrikesAt g (passes_of rows) (i + 1) xs
  each_strikes i xs e = exactly_same (so_far.each i xs e) (none_from (i + 1)) (none_from (suc (i + 1))) (after_none (i + 1))

  max_pass : (s : ℕ) (row : List ℕ) → slice_get rows s ≡ Some row → (a p : ℕ) → slice_get row a ≡ Some p → p ≤ length lists
  max_pass s row at a p has =
      let here = get_or_from_slice_get rows s row [] at in omega (arith, made_before made s a p (cc (is s a)))

  greatest_there : (next ≡ 1) ⊎ IsLastInUse next m → (length lists ≡ 0) ⊎ ((row : List ℕ) × Has rows row × Has row (length lists))
  greatest_there (inl e) = inl (omega arith)
  greatest_there (inr (k, s, a, e, has)) =
      let n = so_far.count in
      let same : k ≡ length lists = omega arith in
      let own_pass : slice_get (passes_of rows s) a ≡ Some k = cc (is s a) in
      elim (cases_lt s (length rows)) [
        | inl lt ↦ inr (passes_of rows s, (s, slice_get-get_or rows s [] lt), (a, cc))
        | inr le ↦ (let bad = rw (get_or_past rows s [] le) at own_pass in cc)
      ]

  pub strikes_of_all : AreStrikesOf g rows lists
  strikes_of_all = record { count = record { most = max_pass; there = greatest_there last }; each = each_strikes }
