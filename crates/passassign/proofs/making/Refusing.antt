-- If two passes of the program assign nothing, its fault is A1, and A1 is true of the grammar.
use Rattle.passassign.proofs.Common
use Common.{ℕ, zero, suc, ◌≡◌, ◌<◌, ◌≤◌, ◌+◌, ◌/◌, ◌%◌, ◌↔◌, cond, List, [], ◌∷◌, None, length, inl, inr, refl, arith, add-one}
use Common.{cases_order, Has, Differ, Grammar, Direction, LeftToRight, RightToLeft, direction_of, other, Members, IsCertificate}
use Common.{stuck_of, IsOpen, AreIdle, IsProgress, IsNext, KeepPasses, open_count, slot_of, state_at, state_of, is_open}
use Common.{table_passes, PassesSoFar, Dependency, Strike, Stuck, State, Absent, Open, Assigned}
use Rattle.std.proofs.lemmas.List.Sums.{sum_by-cons}
use Rattle.passassign.specs.Answer.{IsInDeclaredOrder, IsRefused}
use Rattle.passassign.proofs.slots.Linked.{open_state, open_there}
use Rattle.passassign.proofs.making.Rest.{rest_certified, rest_stuck}
use Rattle.passassign.proofs.making.Whole.{certified_refused, stuck_left}

-- a list in declared order has no duplicates
differ : (set : List (ℕ × ℕ)) → IsInDeclaredOrder set → Differ set
differ set ordered i j x y ex ey same =
    let first : x.0 ≡ y.0 = cc in
    let second : x.1 ≡ y.1 = cc in
    elim (cases_order i j) [
      | inl e ↦ e
      | inr (inl lt) ↦ (let o = ordered i j x y ex ey lt in grind arith)
      | inr (inr gt) ↦ (let o = ordered j i y x ey ex gt in grind arith)
    ]

abbrev pub bit : State → ℕ
bit x = cond (is_open x) 1 0

bit_open : (x : State) → x ≡ Open → bit x ≡ 1
bit_open x e = rw e

pub open_step : (x : State) (xs : List State) → open_count (x ∷ xs) ≡ bit x + open_count xs
open_step x xs = sum_by-cons (λ x. cond (is_open x) 1 0) x xs

bit_le : (x y : State) → (y ≡ Open → x ≡ Open) → bit y ≤ bit x
bit_le x Absent h = omega arith
bit_le x (Assigned p) h = omega arith
bit_le x Open h = omega (arith, bit_open x (h refl))

bit_same : (x y : State) → x ≡ Open → bit x ≤ bit y → y ≡ Open
bit_same x Absent e le = absurd (omega (arith, bit_open x e))
bit_same x (Assigned p) e le = absurd (omega (arith, bit_open x e))
bit_same x Open e le = refl

count_le : (xs ys : List State) → length ys ≡ length xs → KeepPasses ys xs → open_count ys ≤ open_count xs
count_le [] [] len h = omega arith
count_le (x ∷ xs) (y ∷ ys) len h =
    omega (arith, open_step x xs, open_step y ys, bit_le x y (h zero), count_le xs ys (omega arith) (λ k. h (suc k)))
count_le _ _ len h = absurd (omega arith)

-- If no slot becomes open from the table xs to the table ys, and at least as many slots are open in ys as in xs, each slot that
-- is open in xs is open in ys.
same_open : (xs ys : List State) → length ys ≡ length xs → KeepPasses ys xs → open_count xs ≤ open_count ys → KeepPasses xs ys
same_open [] [] len h le k e = e
same_open (x ∷ xs) (y ∷ ys) len h le zero e =
    bit_same x y e (omega (arith, open_step x xs, open_step y ys, count_le xs ys (omega arith) (λ k. h (suc k))))
same_open (x ∷ xs) (y ∷ ys) len h le (suc k) e =
    same_open xs ys (omega arith) (λ k. h (suc k)) (omega (arith, open_step x xs, open_step y ys, bit_le x y (h zero))) k e
same_open _ _ len h le k e = absurd (omega arith)

some_open : (xs : List State) → 0 < open_count xs → (k : ℕ) × (state_at xs k ≡ Open)
some_open [] lt = absurd (omega arith)
some_open (Open ∷ xs) lt = (0, refl)
some_open (Absent ∷ xs) lt = let o = some_open xs (omega (arith, open_step Absent xs)) in (suc o.0, o.1)
some_open (Assigned p ∷ xs) lt = let o = some_open xs (omega (arith, open_step (Assigned p) xs)) in (suc o.0, o.1)

turned_twice : (d : Direction) → other (other d) ≡ d
turned_twice LeftToRight = refl
turned_twice RightToLeft = refl

module _ {g : Grammar} {all : List Dependency} {old new last : PassesSoFar} {first second : List Strike}
    (one : IsNext g all old new first) (two : IsNext g all new last second) (before : IsProgress g all old)
    (next : new.next ≡ old.next + 1) (next_two : last.next ≡ new.next + 1)
    (len : length last.states.items ≡ length old.states.items) (kept : KeepPasses last.states.items old.states.items)
    (most : open_count old.states.items ≤ open_count last.states.items) where
  still : KeepPasses old.states.items last.states.items
  still = same_open old.states.items last.states.items len kept most

  -- an attribute without a pass has none after the two passes
  none_given : (s a : ℕ) → table_passes old.states.items s a ≡ None → table_passes last.states.items s a ≡ None
  none_given s a e = go (state_of last.states.items s a) refl
    where
      go : (x : State) → state_of last.states.items s a ≡ x → table_passes last.states.items s a ≡ None
      go Absent f = rw f
      go Open f = rw f
      go (Assigned p) f =
          let is = (two.progress.of.table.there s a).0 (λ h. cc) in
          let o = open_state before.of s a (is, e) in (open_there two.progress.of s a o.0 (still (slot_of s a) o.1)).1

  one_more : new.next ≡ suc old.next
  one_more = omega arith

  are_idle : AreIdle g old.next (table_passes old.states.items) first second
  are_idle = record {
    between = table_passes new.states.items;
    last = table_passes last.states.items;
    one = one.pass;
    other = rw one_more at two.pass;
    idle = none_given;
  }

  direction : last.direction ≡ direction_of old.next
  direction = rw (two.progress.turned, next_two, add-one, one_more, turned_twice)

  module _ (c : Stuck) (strikes : c ≡ stuck_of last.direction c.set first second)
      (members : (s a : ℕ) → Has c.set (s, a) ↔ ((a < 16) × (state_at last.states.items (slot_of s a) ≡ Open)))
      (ordered : IsInDeclaredOrder c.set) (some : 0 < open_count old.states.items) where
    open_members : (s a : ℕ) → Members c.set s a ↔ IsOpen g (table_passes old.states.items) s a
    open_members s a = (
      (λ h. let m = (members s a).0 h in open_there before.of s a m.0 (kept (slot_of s a) m.1)),
      (λ i. let o = open_state before.of s a i in (members s a).1 (o.0, still (slot_of s a) o.1)),
    )

    is_stuck : c ≡ stuck_of (direction_of old.next) c.set first second
    is_stuck = rw direction at strikes

    member : (x : ℕ × ℕ) × Has c.set x
    member =
        let o = some_open old.states.items some in
        let e : slot_of (o.0 / 16) (o.0 % 16) ≡ o.0 = omega arith in
        ((o.0 / 16, o.0 % 16), (members (o.0 / 16) (o.0 % 16)).1 (omega arith, rw e (still o.0 o.1)))

    certificate : IsCertificate g c
    certificate =
        rw is_stuck
        (rest_certified g old.next (table_passes old.states.items) first second are_idle c.set
        (differ c.set ordered) member open_members)

    pub refused : IsRefused g c
    refused = record {
      none = certified_refused g c before.of.accepted.complete certificate;
      all = λ s a. (
        (λ h. let i = (open_members s a).0 h in
            (i.0, rest_stuck g old.next (table_passes old.states.items) first second are_idle s a i)),
        (λ h. (open_members s a).1 (
          h.0,
          (stuck_left g old.next (table_passes old.states.items) first second before.of.accepted.complete
              before.of.accepted.normal before.made are_idle s a h.0).1 h.1,
        )),
      );
      ordered = ordered;
      certificate = certificate;
      made =
          record {
            pass = old.next;
            before = table_passes old.states.items;
            first = first;
            second = second;
            made = before.made;
            idle = are_idle;
            strikes = is_stuck;
          };
    }
