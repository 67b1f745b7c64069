-- A pass that the program makes is a pass as `IsPass` defines it.
use Rattle.passassign.proofs.Common
use Common.{ℕ, suc, ◌≡◌, ◌<◌, ◌+◌, ◌↔◌, Bool, true, false, ◌&&◌, nat_lt, List, [], None, length, inl, inr, arith, refl}
use Common.{cases_Bool, lt-ltb, ltb-true, Grammar, direction_of, other, AssignsOnlyAttributes, IsOpen, IsMade, IsPass, AreMarks}
use Common.{pass_after, passed, IsProgress, IsNext, KeepPasses, BelongTo, IsSearch, target_of, slot_of, state_at, state_of}
use Common.{pass_of_state, after_pass, is_marked, table_passes, PassesSoFar, Dependency, Strike, State, Absent, Open, Assigned}
use Rattle.passassign.proofs.strikes.Following.{struck_at, at_struck, strikes_open}
use Rattle.passassign.proofs.slots.Linked.{attribute_within, open_state}
use Rattle.passassign.proofs.making.Marked.{pass_by_marks}

absent_after : (k : ℕ) (x : State) (b : Bool) → (after_pass k x b ≡ Absent) ↔ (x ≡ Absent)
absent_after k Absent b = ((λ e. refl), (λ e. refl))
absent_after k Open true = ((λ e. e), (λ e. e))
absent_after k Open false = ((λ e. cc), (λ e. cc))
absent_after k (Assigned p) b = ((λ e. e), (λ e. e))

given_after : (k : ℕ) (x : State) (b : Bool) → (x ≡ Absent → ⊥)
    → pass_of_state (after_pass k x b) ≡ pass_after k (pass_of_state x) b
given_after k Absent b there = absurd (there refl)
given_after k Open true there = refl
given_after k Open false there = refl
given_after k (Assigned p) true there = refl
given_after k (Assigned p) false there = refl

open_after : (k : ℕ) (x : State) (b : Bool) → after_pass k x b ≡ Open → x ≡ Open
open_after k Absent b e = e
open_after k Open b e = refl
open_after k (Assigned p) b e = e

-- only marked attributes are left open
marked_after : (k : ℕ) (x : State) (b : Bool) → after_pass k x b ≡ Open → b ≡ true
marked_after k Absent b e = cc
marked_after k Open true e = refl
marked_after k Open false e = cc
marked_after k (Assigned p) b e = cc

over : {g : Grammar} {all : List Dependency} {states : List State} → BelongTo g all states
    → AssignsOnlyAttributes g (table_passes states)
over {states = states} of s a p e = (of.table.there s a).0 (λ f. let bad : table_passes states s a ≡ None = rw f in cc)

module _ (old new : List State) (marks : List Bool) (k : ℕ)
    (after : (i : ℕ) → state_at new i ≡ after_pass k (state_at old i) (is_marked marks i)) where
  -- the state of an attribute after the pass
  after_of : (s a : ℕ) → state_of new s a ≡ after_pass k (state_of old s a) (is_marked marks (slot_of s a))
  after_of s a = elim (cases_Bool (nat_lt a 16)) [ inl e ↦ rw e (after (slot_of s a)) | inr e ↦ rw e ]

  pub open_in : KeepPasses new old
  open_in i e = open_after k (state_at old i) (is_marked marks i) (cc (after i))

  module _ {g : Grammar} {all : List Dependency} (of : BelongTo g all old) (len : length new ≡ length old) {xs : List Strike}
      (s : IsSearch all (direction_of k) old xs marks) where
    pub of_new : BelongTo g all new
    of_new = record {
      accepted = of.accepted;
      dependencies = of.dependencies;
      table = record {
        len = cc;
        there = λ s a. (
          (λ h. (of.table.there s a).0
              (λ e. h (cc (after_of s a, (absent_after k (state_of old s a) (is_marked marks (slot_of s a))).1 e)))),
          (λ d e. (of.table.there s a).1 d
              ((absent_after k (state_of old s a) (is_marked marks (slot_of s a))).0 (cc (after_of s a)))),
        );
      };
      led = λ u h e.
          let m = marked_after k (state_at old u.argument) (is_marked marks u.argument) (cc (after u.argument)) in
          rw (after (target_of u), of.led u h (open_in u.argument e), s.closed u h m);
    }

    hit_in : (s a : ℕ) → a < 16 → (nat_lt a 16 && is_marked marks (slot_of s a)) ≡ is_marked marks (slot_of s a)
    hit_in s a lt = rw (lt-ltb a 16 lt)

    hit_small : (s a : ℕ) → (nat_lt a 16 && is_marked marks (slot_of s a)) ≡ true → a < 16
    hit_small s a e = elim (cases_Bool (nat_lt a 16)) [ inl h ↦ ltb-true a 16 h | inr h ↦ (let bad = rw h at e in cc) ]

    are_marks : AreMarks (λ s a. nat_lt a 16 && is_marked marks (slot_of s a)) xs
    are_marks u a = (
      (λ e. (let lt = hit_small u a e in
          at_struck (direction_of k) xs of (s.good g of) u a lt ((s.marked (slot_of u a)).0 (cc (hit_in u a lt))))),
      (λ h. (
          let o = strikes_open g (direction_of k) (IsOpen g (table_passes old)) [] xs (s.good g of) u a h in
          let lt = (open_state of u a o).0 in
          cc (hit_in u a lt, (s.marked (slot_of u a)).1 (struck_at (direction_of k) xs of (s.good g of) u a h)))),
    )

    pub is_pass : IsPass g k (table_passes old) (table_passes new) xs
    is_pass =
        pass_by_marks g k (table_passes old) (table_passes new) xs (λ s a. nat_lt a 16 && is_marked marks (slot_of s a))
        (over of) (over of_new) (s.good g of) (s.finished g of) are_marks
        (λ u a i.
        let lt = (attribute_within g u a of.accepted i).0 in
        rw (after_of u a, hit_in u a lt)
        (given_after k (state_of old u a) (is_marked marks (slot_of u a)) ((of.table.there u a).1 i)))

pub next_made : {g : Grammar} {all : List Dependency} {old new : PassesSoFar} {xs : List Strike} {marks : List Bool}
    → ((i : ℕ) → state_at new.states.items i ≡ after_pass old.next (state_at old.states.items i) (is_marked marks i))
    → length new.states.items ≡ length old.states.items → new.next ≡ old.next + 1
    → new.direction ≡ other old.direction → IsSearch all old.direction old.states.items xs marks → IsProgress g all old
    → IsNext g all old new xs
next_made {g} {all} {old} {new} {xs} {marks} after len next turned s p =
    record { progress = record { of = now; made = made; turned = turn }; pass = pass }
  where
    found : IsSearch all (direction_of old.next) old.states.items xs marks
    found = rw p.turned at s

    now : BelongTo g all new.states.items
    now = of_new old.states.items new.states.items marks old.next after p.of len found

    pass : IsPass g old.next (table_passes old.states.items) (table_passes new.states.items) xs
    pass = is_pass old.states.items new.states.items marks old.next after p.of len found

    one_more : new.next ≡ suc old.next
    one_more = omega arith

    made : IsMade g new.next (table_passes new.states.items)
    made =
        rw one_more
        (passed old.next (table_passes old.states.items) (table_passes new.states.items) xs p.made pass)

    turn : new.direction ≡ direction_of new.next
    turn = rw (one_more, turned, p.turned)
