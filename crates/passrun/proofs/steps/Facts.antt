-- Facts about the innermost open node that a step needs.
use Rattle.passrun.proofs.Common
use Common.{ℕ, zero, suc, ◌≡◌, ◌+◌, ◌<◌, ◌≤◌, inl, inr, false, List, [], ◌∷◌, ◌++◌, Some, slice_get, length, drop, refl, ap, ◌∙◌}
use Common.{sym, arith, length-append, length-drop, drop_at, slice_get_within, Value, Item, Production, Rule, Target, IsArgument}
use Common.{IsProduction, item_at, stored_items, item_passes, nth, Pending, count_up_to, values_up_to, Instr, Phase, Between}
use Common.{Gone, Setting, list_at, pass_direction, IsSound, OpenNode, goes_next, IsCurrent, Transcript, RunInvariant, state_of}
use Common.{Table, copied_passes, rest_of, stored, argument_slot, copied_all, copied_before, copied_width, copy_start, IsActive}
use Common.{Entry, stored_width, target_slot}
use Common.item
use Common.instr
use Rattle.passcode.specs.Course.{MayCompute, Runs, arity, place_of}
use Rattle.passcode.proofs.Turns.{is_stored_child}
use Rattle.passrun.proofs.places.Slots.{begins_with_copy, length_row, length_stored, row_less}
use Rattle.passrun.proofs.steps.RuleRuns.{IsPlaced}
use Rattle.passrun.proofs.steps.Ruled.{argument_there}
use Rattle.passrun.proofs.steps.EntersNone.{goes_nowhere}
use Rattle.passrun.proofs.steps.Steps.{IsGivingOf, IsNext, at_end, at_get, at_put, give_next, runs_next}

-- An open node has a next instruction.
pub record IsHere (c : Setting) (x : OpenNode) : Type 0 where
  pub production : Production
  pub there : IsProduction c.grammar x.production production
  pub next : x.at < length (list_at c x.production)

-- The child at a place, with its copies among the values.
pub record HasPlace (c : Setting) (x : OpenNode) (j : ℕ) (values : List Value) : Type 0 where
  pub production : Production
  pub there : IsProduction c.grammar x.production production
  pub item : Item
  pub occurs : item_at production j ≡ Some item
  pub some : 0 < j
  pub within : x.base + (copy_start c production j + copied_width c item) ≤ length values

-- The node's own row is the last one among the values.
pub record HasOwn (c : Setting) (x : OpenNode) (values : List Value) : Type 0 where
  pub production : Production
  pub there : IsProduction c.grammar x.production production
  pub within : x.base + stored_width c production ≡ length values

-- The node y waits for its child. The child's row begins at `base` and is the last one; the copies of its values are in y's row.
pub record HasWaited (c : Setting) (y : OpenNode) (base : ℕ) (values : List Value) : Type 0 where
  pub production : Production
  pub there : IsProduction c.grammar y.production production
  pub item : Item
  pub occurs : item_at production y.place ≡ Some item
  pub some : 0 < y.place
  pub within : y.base + (copy_start c production y.place + copied_width c item) ≤ base
  pub wide : base + copied_width c item ≤ length values

-- The node's production has a rule, whose target and arguments have their slots among the values.
pub record HasRule (c : Setting) (x : OpenNode) (j a r : ℕ) (values : List Value) : Type 0 where
  pub production : Production
  pub there : IsProduction c.grammar x.production production
  pub rule : Rule
  pub numbered : slice_get production.rules r ≡ Some rule
  pub target : rule.target ≡ record { place = j; attr = a }
  pub within : x.base + target_slot c production j a < length values
  pub arguments : (o : Target) → IsArgument rule o → argument_slot c production o.place o.attr < length (drop x.base values)

-- The copies for a child are in the row of its node.
copies_within : (c : Setting) (xs : List Item) (b : ℕ) (x : Item) → slice_get xs b ≡ Some x
    → copied_before c xs b + copied_width c x ≤ copied_all c xs
copies_within c [] b x at = absurd cc
copies_within c (y ∷ xs) zero x at = let same : y ≡ x = cc in omega (arith, ap (copied_width c) same)
copies_within c (y ∷ xs) (suc b) x at = omega (arith, copies_within c xs b x at)

row_within : (c : Setting) (q : Production) (b : ℕ) (x : Item) → slice_get (stored_items q.items) b ≡ Some x
    → copy_start c q (suc b) + copied_width c x ≤ stored_width c q
row_within c q b x at = omega (arith, copies_within c (stored_items q.items) b x at)

-- The copies for the child at the next place are among the values.
copies_in : (c : Setting) (x : OpenNode) (q : Production) (i : ℕ) (f : ℕ → Value) (e : Table) {x' : Item}
    (under row : List Value) {values : List Value} → item_at q (place_of q c.write i) ≡ Some x' → x.base ≡ length under
    → values ≡ under ++ (stored c q f e ++ row)
    → x.base + (copy_start c q (place_of q c.write i) + copied_width c x') ≤ length values
copies_in c x q i f e {x'} under row occurs base is =
    omega (
      arith,
      row_within c q (nth (pass_direction c) (arity q) i) x' occurs,
      length_stored c q f e,
      length-append under (stored c q f e ++ row),
      length-append (stored c q f e) row,
      ap length is,
    )

has_place : {c : Setting} {entry : Entry} {level : ℕ} {x : OpenNode} {ph : Phase} {values : List Value} {t : Transcript} {now : ℕ}
    {todo : Pending} {j : ℕ} {x' : Item} (o : IsActive c entry level x ph values t now todo)
    → j ≡ place_of o.production c.write o.i → item_at o.production (place_of o.production c.write o.i) ≡ Some x'
    → HasPlace c x j values
has_place {c} {entry} {x = x} {x' = x'} o place occurs = record {
  production = o.production;
  there = o.is_open.there;
  item = x';
  occurs = cc;
  some = omega arith;
  within = rw place (copies_in c x o.production o.i (o.table 0) o.copied entry.under o.row occurs o.base o.values_are);
}

module _ {c : Setting} (root : ℕ) {x : OpenNode} (xs : List OpenNode) {values : List Value} {t : Transcript} {now : ℕ}
    {todo : Pending} where
  pub here : RunInvariant c root (x ∷ xs) values t now todo → IsHere c x
  here (entry, waits, ph, o) =
      let some = some_left ph (rest_of c x) o.runs o.current in
      let n = length-drop x.at (list_at c x.production) in
      record { production = o.production; there = o.is_open.there; next = omega arith }
    where
      some_left : (ph : Phase) (zs : List Instr) → Runs c.passes o.production c.write (state_of ph o.i o.done) zs
          → IsCurrent c o.production ph o.i (suc (length xs)) x.child o.table o.of_child o.row o.mid t o.count → 0 < length zs
      some_left ph [] ended current = elim (rw ended at current) [ ]
      some_left ph (z ∷ zs) runs current = omega arith

  pub put_place : {j : ℕ} → IsNext c x (instr.Put j) → RunInvariant c root (x ∷ xs) values t now todo → HasPlace c x j values
  put_place at (entry, waits, ph, here) =
      let o = at_put here at in has_place o (runs_next o at).0.place o.current.0.occurs

  pub get_place : {j : ℕ} → IsNext c x (instr.Get j) → RunInvariant c root (x ∷ xs) values t now todo → HasPlace c x j values
  get_place at (entry, waits, ph, here) =
      let o = at_get here at in
      let turn = (runs_next o at).0 in
      has_place o turn.place (is_stored_child o.production c.write o.i turn.within).1.1

  -- When a node ends, its row is the last one.
  pub own_row : IsNext c x instr.End → RunInvariant c root (x ∷ xs) values t now todo → HasOwn c x values
  own_row at (entry, waits, ph, here) =
      let o = at_end here at in
      let q = o.production in
      let n = length_stored c q (o.table 0) o.copied in
      let a = length-append entry.under (stored c q (o.table 0) o.copied ++ o.row) in
      let b = length-append (stored c q (o.table 0) o.copied) o.row in
      let d = ap length o.current.2 in
      let e = ap length o.values_are in
      let k = o.base in
      record { production = q; there = o.is_open.there; within = omega arith }

  -- After a `Put` the pass does not enter a child next.
  pub put_stays : {j : ℕ} → IsNext c x (instr.Put j) → RunInvariant c root (x ∷ xs) values t now todo
      → goes_next (drop (x.at + 1) (list_at c x.production)) ≡ false
  put_stays at (entry, waits, ph, o) =
      let next = runs_next o at in
      goes_nowhere c o.production (state_of Between (suc o.i) o.done) (drop (x.at + 1) (list_at c x.production)) (λ e. cc) next.1

-- When a node ends, the copies of its values come before its row.
pub waited : {c : Setting} (root : ℕ) {x y : OpenNode} (ys : List OpenNode) {values : List Value} {t : Transcript} {now : ℕ}
    {todo : Pending} → IsNext c x instr.End → RunInvariant c root (x ∷ y ∷ ys) values t now todo → HasWaited c y x.base values
waited {c} root {x} {y} ys {values} {t} {now} {todo} at h = go (own_row root (y ∷ ys) at h) h
  where
    go : HasOwn c x values → RunInvariant c root (x ∷ y ∷ ys) values t now todo → HasWaited c y x.base values
    go own (entry, (outer, waits, z), ph, o) =
        let same : Some o.production ≡ Some own.production = cc own.there in
        let one : o.production ≡ own.production = cc in
        let left : own.production.left ≡ entry.symbol = cc in
        let within = copies_in c y z.production z.i (z.table 0) z.copied outer.under [] z.occurs z.base refl in
        let n = length-append outer.under (stored c z.production (z.table 0) z.copied ++ []) in
        let m = length-append outer.under (stored c z.production (z.table 0) z.copied) in
        let l = length-append (stored c z.production (z.table 0) z.copied) [] in
        let u = ap length z.under_is in
        let k = o.base in
        let before_it : y.base
        + (copy_start c z.production (place_of z.production c.write z.i) + copied_width c (item.Symbol entry.symbol)) ≤ x.base =
        omega arith in
        let few = begins_with_copy c (item.Symbol entry.symbol) (o.table 0) in
        let share = values_up_to c.write (copied_passes c (item.Symbol entry.symbol)) (o.table 0) in
        let r = ap length few.1 ∙ length-append share few.0 in
        let w = length_row c.write (copied_passes c (item.Symbol entry.symbol)) (o.table 0) in
        let v = length_row c.write (c.passes entry.symbol) (o.table 0) ∙ ap (λ s. count_up_to c.write (c.passes s)) (sym left) in
        let own_is = own.within in
        record {
          production = z.production;
          there = z.is_open.there;
          item = item.Symbol entry.symbol;
          occurs = cc;
          some = omega (arith, z.place_is);
          within = rw z.place_is before_it;
          wide = omega arith;
        }

-- In the node that waits, the pass does not enter a child next.
pub waits_stay : {c : Setting} (root : ℕ) {x : OpenNode} (xs : List OpenNode) {values : List Value} {t : Transcript} {now : ℕ}
    {todo : Pending} {y : OpenNode} {ys : List OpenNode} → xs ≡ y ∷ ys → RunInvariant c root (x ∷ xs) values t now todo
    → goes_next (rest_of c y) ≡ false
waits_stay root [] e p = absurd cc
waits_stay {c} root (w ∷ ws) {y = y} e
    (entry, (outer, waits, z), ph, o) =
    let same : w ≡ y = cc in
    rw (← same)
    (goes_nowhere c z.production (state_of Gone z.i z.done) (rest_of c w) (λ e. cc) z.runs)

pub given_rule : {c : Setting} → IsSound c → (root : ℕ) {x : OpenNode} (xs : List OpenNode) {values : List Value} {t : Transcript}
    {now : ℕ} {todo : Pending} {j a r : ℕ} {z : Instr} → IsGivingOf j a r z → IsNext c x z
    → RunInvariant c root (x ∷ xs) values t now todo → HasRule c x j a r values
given_rule {c} sound root {x} xs {values} {t} {j = j} {a = a} {r = r} giving at (entry, waits, ph, o) =
    record {
      production = q;
      there = o.is_open.there;
      rule = next.0.rule;
      numbered = next.0.numbered;
      target = next.0.target;
      within = within next.1;
      arguments = arguments;
    }
  where
    q : Production
    q = o.production

    next : MayCompute c.passes q c.write (state_of ph o.i o.done) j a r × IsPlaced c q (state_of ph o.i o.done) j
    next = let g = give_next o giving at in (g.0, g.1)

    pass : slice_get (item_passes c.passes (item_at q j)) a ≡ Some c.write
    pass = rw next.0.target at next.0.passed

    arguments : (t : Target) → IsArgument next.0.rule t → argument_slot c q t.place t.attr < length (drop x.base values)
    arguments t arg =
        let row = stored c q (o.table 0) o.copied ++ o.row in
        let at =
        argument_there sound x.production q (state_of ph o.i o.done) r next.0.rule o.table o.copied o.row o.is_open.there
        next.0.numbered o.agreement t arg (next.0.available t arg) in
        omega (
          arith,
          slice_get_within row (argument_slot c q t.place t.attr) (o.table t.place t.attr) at,
          ap length (ap (drop x.base) o.values_are ∙ drop_at entry.under row x.base (sym o.base)),
        )

    whole : length values ≡ length entry.under + (stored_width c q + length o.row)
    whole =
        omega (
          arith,
          length-append entry.under (stored c q (o.table 0) o.copied ++ o.row),
          length-append (stored c q (o.table 0) o.copied) o.row,
          length_stored c q (o.table 0) o.copied,
          ap length o.values_are,
        )

    own : j ≡ 0 → x.base + target_slot c q j a < length values
    own none =
        rw none (omega (
          arith,
          row_less c.write (c.passes q.left) (o.table 0) a c.write (rw none at pass) (omega arith),
          length_row c.write (c.passes q.left) (o.table 0),
          whole,
          o.base,
        ))

    within : IsPlaced c q (state_of ph o.i o.done) j → x.base + target_slot c q j a < length values
    within (inl none) = own none
    within (inr turn) =
        let current = rw turn.phase_is at o.current in
        let g = current.0 in
        let pl = place_of q c.write o.i in
        let ps : item_passes c.passes (item_at q pl) ≡ c.passes g.production.left = cc (g.occurs, g.left) in
        let at1 : slice_get (c.passes g.production.left) a ≡ Some c.write = cc (pass, turn.place) in
        rw (turn.place, ps) (omega (
          arith,
          row_less c.write (c.passes g.production.left) (o.table pl) a c.write at1 (omega arith),
          length_row c.write (c.passes g.production.left) (o.table pl),
          length_stored c g.production (o.table pl) o.of_child,
          ap length current.2,
          whole,
          o.base,
        ))
