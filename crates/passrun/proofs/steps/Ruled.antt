-- Running a rule: the values of its arguments, and the slot of its value.
use Rattle.passrun.proofs.Common
use Common.{subst, cond, ℕ, zero, suc, ◌≡◌, ◌≢◌, ◌+◌, ◌-◌, ◌<◌, ◌⊎◌, inl, inr, true, List, ◌∷◌, ◌++◌, Option, Some, None}
use Common.{slice_get, slice_index, get_or, length, drop, set, refl, ap, ◌∙◌, sym, arith, drop_at, set-append_left}
use Common.{set-append_right, get_or_from_slice_get, slice_get_within, Value, Item, Production, Rule, Target, IsArgument}
use Common.{IsProduction, Synthesized, used_kind, item_at, item_kinds, stored_items, HasPass, item_passes, Supplies, left_passes}
use Common.{value_of, Pending, Instr, is_computation, Phase, Between, Got, Gone, Ended, Setting, list_at, IsSound, RuleSlots}
use Common.{OpenNode, AreSlotsOf, after_step, IsCurrent, RunInvariant, Transcript, state_of, IsReached, AgreesSoFar, Table}
use Common.{copies, in_children, place_passes, stored, argument_slot, rank, stored_width, target_slot, some_at}
use Rattle.ag_grammar.proofs.expressions.Depending.{rule_has_one_value}
use Rattle.passcode.specs.Course.{IsAvailable, IsFinal, MayCompute, Runs, State, place_of, run_count}
use Rattle.passrun.specs.passing.Change as change
use Rattle.passrun.proofs.course.Ahead.{pending_same}
use Rattle.passrun.proofs.places.Copies.{copies_set, shown_set}
use Rattle.passrun.proofs.steps.RuleTargets.{argument_kind}
use Rattle.passrun.proofs.steps.RuleRuns.{IsPlaced, open_after_rule}
use Rattle.passrun.proofs.steps.Moves.{known_differs}
use Rattle.passrun.proofs.places.Slots.{argument_at, has_copy, length_row, length_stored, own_at, own_set, row_less}
use Rattle.passrun.proofs.steps.Steps.{IsGivingOf, IsNext, give_next, rules_next, same_production, stored_same}
use Rattle.passrun.proofs.places.Tables.{body_same, set_here, set_other}

-- A rule has as many occurrences as arguments.
pub rule_named : (c : Setting) → IsSound c → (p r : ℕ) (q : Production) (u : Rule) → IsProduction c.grammar p q
    → slice_get q.rules r ≡ Some u → (length u.expr.occurrences ≡ length u.args)
rule_named c sound p r q u there num = (sound.accepted.named.rules_named p q there r u num).arguments.equally_long

-- The row of the child that was read last, after one of its values was replaced.
abbrev IsRowNow : Setting → Production → ℕ → ℕ → Value → List Value → List Value → Type 0
IsRowNow c q j a v row now = ((j ≡ 0) × (now ≡ row)) ⊎ ((j ≢ 0) × (now ≡ set row (rank c.write (place_passes c q j) a) v))

-- Replacing a value of the pass at its target does not change the state at the next place, except for that
-- value in the child's row.
module _ (c : Setting) (q : Production) (i : ℕ) (done : List ℕ) (level p : ℕ) (e of_child : Table) (row now : List Value)
    (j a : ℕ) (v : Value) (old new : Transcript) (count : ℕ) (next : c.write ≡ suc c.read)
    (pass : HasPass c.passes q (record { place = j; attr = a }) c.write) where
  current_stays : (ph : Phase) → IsPlaced c q (state_of ph i done) j → IsRowNow c q j a v row now
      → IsCurrent c q ph i level p e of_child row old new count
      → IsCurrent c q ph i level p (change.set e j a v) of_child now old new count
  current_stays Between placed (inl k) h = (h.0, h.1, cc)
  current_stays Gone placed (inl k) (g, nothing) = (
    record {
      item = g.item;
      occurs = g.occurs;
      tree = g.tree;
      values = g.values;
      evaluated = g.evaluated;
      number = g.number;
      root = λ b. g.root b ∙ sym (set_other e j a v (place_of q c.write i) b (λ both. omega (arith, both.0, k.0)));
      read = g.read;
      put = g.put;
      counted = g.counted;
      deep = g.deep;
    },
    cc,
  )
  current_stays Ended placed now_is h = absurd h
  current_stays Got placed now_is (g, none, is) = (
    record {
      symbol = g.symbol;
      occurs = g.occurs;
      production = g.production;
      there = g.there;
      left = g.left;
      transcript =
          cc (
            g.transcript,
            body_same c.read c.grammar c.passes p g.symbol (e pl) (change.set e j a v pl)
                (copies c c.read (stored_items g.production.items) (in_children of_child))
                (ap (left_passes c.passes) g.there ∙ ap c.passes g.left)
                (λ b n is le. sym (set_other e j a v pl b (λ both. omega (arith, of_pass b n both.0 both.1 is)))),
          );
      deep = g.deep;
    },
    none,
    row_is now_is,
  )
    where
      pl : ℕ
      pl = place_of q c.write i

      there : item_passes c.passes (item_at q pl) ≡ c.passes g.symbol
      there = cc g.occurs

      of_pass : (b n : ℕ) → pl ≡ j → b ≡ a → slice_get (c.passes g.symbol) b ≡ Some n → n ≡ c.write
      of_pass b n bj ba is' = let same : Some n ≡ Some c.write = cc (there, pass) in cc

      row_is : IsRowNow c q j a v row now → now ≡ stored c g.production (change.set e j a v pl) of_child
      row_is (inl k) =
          cc (stored_same c g.production (e pl) (change.set e j a v pl) of_child
          (λ b. sym (set_other e j a v pl b (λ both. omega (arith, both.0, k.0)))))
      row_is (inr k) =
          let here : j ≡ pl = elim placed [ inl x ↦ absurd (k.0 x) | inr x ↦ x.place ] in
          let ps : place_passes c q j ≡ c.passes g.production.left = cc (there, g.left) in
          let at : slice_get (c.passes g.production.left) a ≡ Some c.write = cc pass in
          cc (own_set c g.production (e pl) (change.set e j a v pl) of_child a c.write v at (omega arith)
          (ap (λ j. change.set e j a v pl a) here ∙ set_here e pl a v)
          (λ b apart. set_other e j a v pl b (λ both. apart both.1)))
  current_stays _ placed (inr k) h = absurd (elim placed [ inl x ↦ k.0 x | inr x ↦ (let y = x.phase_is in cc) ])

module _ {c : Setting} (sound : IsSound c) where
  module _ (p : ℕ) (q : Production) (state : State) (r : ℕ) (u : Rule) (e s : Table) (row : List Value)
      (there : IsProduction c.grammar p q) (num : slice_get q.rules r ≡ Some u)
      (shown : AgreesSoFar c q (run_count state.phase state.turn) e s) where
    -- An argument is in its slot.
    pub argument_there : (o : Target) → IsArgument u o → IsAvailable c.passes q c.write state o
        → slice_get (stored c q (e 0) s ++ row) (argument_slot c q o.place o.attr) ≡ Some (e o.place o.attr)
    argument_there o arg (n, pass, le, final) =
        go o.place pass final (argument_kind c.grammar sound.accepted p q there r u o num arg)
      where
        go : (j : ℕ) → slice_get (item_passes c.passes (item_at q j)) o.attr ≡ Some n → IsFinal q c.write state j n
            → slice_get (item_kinds c.grammar (item_at q j)) o.attr ≡ Some (used_kind j)
            → slice_get (stored c q (e 0) s ++ row) (argument_slot c q j o.attr) ≡ Some (e j o.attr)
        go zero pass final kind = own_at c q (e 0) s row o.attr n pass le
        go (suc b) pass final kind = child (item_at q (suc b)) refl pass kind
          where
            child : (z : Option Item) → item_at q (suc b) ≡ z → slice_get (item_passes c.passes z) o.attr ≡ Some n
                → slice_get (item_kinds c.grammar z) o.attr ≡ Some Synthesized
                → slice_get (stored c q (e 0) s ++ row) (argument_slot c q (suc b) o.attr) ≡ Some (e (suc b) o.attr)
            child None is pass kind = absurd cc
            child (Some x) is pass kind =
                let copy = has_copy c x o.attr n kind pass in
                cc (argument_at c q (e 0) s row b o.attr n x is copy le, shown b o.attr n x is copy le final)

    -- The values that are lent are those of the occurrences.
    lent_is : (slots : RuleSlots) (spare : Value) → AreSlotsOf c q u slots
        → ((o : Target) → IsArgument u o → IsAvailable c.passes q c.write state o) → (k : ℕ) (o : Target)
        → slice_get u.args k ≡ Some o → get_or (stored c q (e 0) s ++ row) (slice_index slots.args k) spare ≡ e o.place o.attr
    lent_is slots spare are available k o at =
        let less : k < length slots.args = omega (arith, slice_get_within u.args k o at, are.args.equally_long) in
        let z = some_at slots.args k less in
        cc (
          are.args.each k o z.0 at z.1,
          get_or_from_slice_get slots.args k z.0 0 z.1,
          get_or_from_slice_get (stored c q (e 0) s ++ row) (argument_slot c q o.place o.attr) (e o.place o.attr) spare
              (argument_there o (k, at) (available o (k, at))),
        )

  -- The slot of the value among a node's values.
  put_own : (q : Production) (e s : Table) (row : List Value) (a : ℕ) (v : Value)
      → HasPass c.passes q (record { place = 0; attr = a }) c.write
      → set (stored c q (e 0) s ++ row) (target_slot c q 0 a) v ≡ stored c q (change.set e 0 a v 0) s ++ row
  put_own q e s row a v pass =
      let at : slice_get (c.passes q.left) a ≡ Some c.write = pass in
      let slot : target_slot c q 0 a ≡ rank c.write (c.passes q.left) a = omega arith in
      let less : rank c.write (c.passes q.left) a < length (stored c q (e 0) s) =
      omega (
        arith,
        row_less c.write (c.passes q.left) (e 0) a c.write at (omega arith),
        length_row c.write (c.passes q.left) (e 0),
        length_stored c q (e 0) s,
      ) in
      cc (
        set-append_left (stored c q (e 0) s) row (rank c.write (c.passes q.left) a) v less,
        own_set c q (e 0) (change.set e 0 a v 0) s a c.write v at (omega arith) (set_here e 0 a v)
            (λ b apart. set_other e 0 a v 0 b (λ both. apart both.1)),
      )

  put_child_value : (q : Production) (e s : Table) (row : List Value) (b a : ℕ) (v : Value)
      → set (stored c q (e 0) s ++ row) (target_slot c q (suc b) a) v ≡ stored c q (change.set e (suc b) a v 0) s ++ set row
      (rank c.write (place_passes c q (suc b)) a) v
  put_child_value q e s row b a v =
      let m = length_stored c q (e 0) s in
      let r = rank c.write (place_passes c q (suc b)) a in
      let minus : stored_width c q + r - stored_width c q ≡ r = omega arith in
      cc (
        set-append_right (stored c q (e 0) s) row (stored_width c q) (target_slot c q (suc b) a) v m (omega arith),
        stored_same c q (e 0) (change.set e (suc b) a v 0) s (λ n. sym (set_other e (suc b) a v 0 n (λ both. omega arith))),
      )

  -- A rule was run at the innermost open node.
  pub step_give : (root : ℕ) {x : OpenNode} (xs : List OpenNode) (spare : Value) {values new : List Value} {t : Transcript}
      {now : ℕ} {todo : Pending} {j a r : ℕ} {v : Value} {z : Instr} {q0 : Production} {u0 : Rule} {slots : RuleSlots}
      → IsGivingOf j a r z → IsNext c x z → IsProduction c.grammar x.production q0
      → slice_get q0.rules r ≡ Some u0 → AreSlotsOf c q0 u0 slots
      → v ≡ value_of u0.expr.tree (λ k. get_or (drop x.base values) (slice_index slots.args k) spare)
      → new ≡ set values (x.base + slots.target) v
      → RunInvariant c root (x ∷ xs) values t now todo → RunInvariant c root (after_step x x.child ∷ xs) new t (now + 1) todo
  step_give root {x} xs spare {values} {t = t} {j = j} {a} {r} {v} {z} {q0} {u0} {slots} giving at there num are0 is0 written
      (entry, waits, ph, o) = (
        entry,
        waits,
        ph,
        record {
          production = q;
          i = o.i;
          done = r ∷ o.done;
          table = change.set e j a v;
          copied = o.copied;
          of_child = o.of_child;
          row = row_now;
          trees = o.trees;
          valuations = o.valuations;
          mid = o.mid;
          count = o.count;
          is_open =
              open_after_rule sound v g value_is next.1 o.is_open;
          runs = next.3;
          agreement = shown_set c q (run_count ph o.i) e o.copied j a v pass (fault_unless next.1) o.agreement;
          current =
              current_stays c q o.i o.done (suc (length xs)) x.child e o.of_child o.row row_now j a v o.mid t o.count
              sound.next pass ph next.1 (both j refl).1 o.current;
          counted = let one : ◌≡◌ {A = ℕ} (cond (is_computation z) 1 0) 1 = cc next.2 in
              omega (arith, o.counted, rules_next c x at);
          values_are =
              let minus : length entry.under + target_slot c q j a - length entry.under ≡ target_slot c q j a = omega arith in
              cc (
                written,
                o.values_are,
                sum,
                set-append_right entry.under prefix (length entry.under) (length entry.under + target_slot c q j a) v refl
                    (omega arith),
                (both j refl).0,
              );
          base = o.base;
          todo_is = o.todo_is
              ∙ pending_same c q ph o.i x.child e (change.set e j a v) o.of_child (suc (suc (length xs))) entry.others
              copied_same;
        },
      )
    where
      q : Production
      q = o.production

      e : Table
      e = o.table

      prefix : List Value
      prefix = stored c q (e 0) o.copied ++ o.row

      next : MayCompute c.passes q c.write (state_of ph o.i o.done) j a r × IsPlaced c q (state_of ph o.i o.done) j
          × (is_computation z ≡ true) × Runs c.passes q c.write (state_of ph o.i (r ∷ o.done))
          (drop (x.at + 1) (list_at c x.production))
      next = give_next o giving at

      g : MayCompute c.passes q c.write (state_of ph o.i o.done) j a r
      g = next.0

      pass : HasPass c.passes q (record { place = j; attr = a }) c.write
      pass = rw g.target at g.passed

      qs : q0 ≡ q
      qs = same_production c x.production there o.is_open.there

      rules_same : u0 ≡ g.rule
      rules_same =
          let us : Some u0 ≡ Some g.rule = cc (qs, g.numbered) in
          cc

      are : AreSlotsOf c q g.rule slots
      are = rw (qs, rules_same) at are0

      sum : x.base + slots.target ≡ length entry.under + target_slot c q j a
      sum =
          let to : slots.target ≡ target_slot c q j a = cc (are.target, g.target) in
          omega (arith, o.base)

      value_is : (env : ℕ → Value) → Supplies g.rule e env → v ≡ value_of g.rule.expr.tree env
      value_is env lends =
          let lent : ℕ → Value = λ k. get_or prefix (slice_index slots.args k) spare in
          let dropped : drop x.base values ≡ prefix = cc (drop_at entry.under prefix x.base (sym o.base)) in
          (rw (rules_same, dropped) at is0)
          ∙ rule_has_one_value c.grammar q g.rule e lent env
          (sound.accepted.named.rules_named x.production q o.is_open.there r g.rule g.numbered)
          (λ k o' at'. lent_is x.production q
          (state_of ph o.i o.done) r g.rule e o.copied o.row o.is_open.there g.numbered o.agreement slots spare are
          g.available k o' at') lends

      row_of : ℕ → List Value
      row_of zero = o.row
      row_of (suc b) = set o.row (rank c.write (place_passes c q (suc b)) a) v

      row_now : List Value
      row_now = row_of j

      both : (n : ℕ) → n ≡ j → (set prefix (target_slot c q j a) v ≡ stored c q (change.set e j a v 0) o.copied ++ row_now)
          × IsRowNow c q j a v o.row row_now
      both zero is = (
        cc (put_own q e o.copied o.row a v (rw (← is) at pass)),
        inl (sym is, cc),
      )
      both (suc b) is = (
        cc (put_child_value q e o.copied o.row b a v),
        inr ((λ none. omega arith), cc),
      )

      fault_unless : IsPlaced c q (state_of ph o.i o.done) j → IsReached c q (run_count ph o.i) j → j ≡ 0
      fault_unless (inl own) k = own
      fault_unless (inr turn) k =
          absurd
          (known_differs c q o.i j turn.within (subst (λ ph. IsReached c q (run_count ph o.i) j) turn.phase_is k) turn.place)

      copied_same : copies c c.read (stored_items q.items) (in_children e) ≡ copies c c.read (stored_items q.items)
          (in_children (change.set e j a v))
      copied_same = sym (copies_set c q e j a v sound.next pass)
