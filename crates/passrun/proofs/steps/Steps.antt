-- The steps of a pass.
use Rattle.passrun.proofs.Common
use Common.{pending_of_child, if◌then◌else◌, ℕ, zero, suc, ◌≡◌, ◌+◌, ◌<◌, ◌≤◌, ◌⊎◌, inl, inr, List, [], ◌∷◌, ◌++◌, Some, All}
use Common.{true, slice_get, length, take, drop, refl, ap, ◌∙◌, sym, subst, arith, append_assoc, append-nil, length-append, cond}
use Common.{count_by, le-leb, drop_all, drop_at, take_at, Value, Text, IsWell, Direction, Item, Class, Production, IsProduction}
use Common.{item_at, stored_items, direction_of, nth, other, Valuation, graft, Tree, leaf, node, none, depth_of, max_depth}
use Common.{pass_rule_count, rules_of_pass, count_more, Node, Token, Pending, before_others, pending_root, BodyTree, branch}
use Common.{postfix, bodies_of, values_up_to, body_of, version_two, Instr, is_computation, Phase, Between, Got, Gone, Setting}
use Common.{pass_direction, list_at, IsSound, OpenNode, following, node_table, with_row, AreRecords, source, first_at, left_at}
use Common.{after_step, Transcript, Keeps, IsEvaluatedTree, IsReady, IsActive, RunInvariant, below, after_reading, put_of}
use Common.{root_body, root_number, rules_left, state_of, Table, copied_passes, copies, in_children, stored, AgreeAt}
use Common.{copied_width, copy_start, stored_width, first_row, few_values, AgreesSoFar, IsCurrent, IsRead, Literal, kept_values}
use Common.{Entry, pending, read_values, get_or_from_slice_get, slice_get_within}
use Common.item
use Common.instr
use Rattle.std.proofs.lemmas.List.{drop_more}
use Rattle.passcode.specs.Course.{MayCompute, Runs, after_get, arity, place_of, run_count}
use Rattle.passcode.proofs.Agreeing.{agrees}
use Rattle.passcode.proofs.lists.Counting.{lists_evaluate_rules}
use Rattle.passrun.proofs.course.Ahead.{after_last, after_next, children_read, is_record, of_node_is, pending_same, read_row}
use Rattle.passrun.proofs.places.Copies.{agree_table, copies_row, shown_both, shown_row}
use Rattle.passrun.proofs.Damage.{leaves_on}
use Rattle.passrun.proofs.course.Forests.{add_tree, add_values, fits_none, rules_add}
use Rattle.passrun.proofs.steps.Moves.{met_child, returned, put_child, ended, kept_copy, known_last, known_differs}
use Rattle.passrun.proofs.steps.RuleRuns.{IsPlaced, known_here}
use Rattle.passrun.proofs.places.Slots.{begins_with_copy, length_row, length_stored, row_split}
use Rattle.passrun.proofs.places.Tables.{with_is, with_here, with_other, same_values, All-before, All-after}

-- The instruction at an index, and those after it.
pub next_is : (xs : List Instr) (n : ℕ) (x : Instr) → slice_get xs n ≡ Some x → drop n xs ≡ x ∷ drop (n + 1) xs
next_is xs n x at = cc (drop_more xs n x (slice_get_within xs n x at), get_or_from_slice_get xs n x x at)

-- The next instruction of a node.
abbrev pub IsNext : Setting → OpenNode → Instr → Type 0
IsNext c x z = slice_get (list_at c x.production) x.at ≡ Some z

-- The next instruction z of a node is about the child at place j, an item x'. The node's production is q.
pub record IsAtChild (c : Setting) (x : OpenNode) (z : Instr) (j : ℕ) (q : Production) (x' : Item) : Type 0 where
  pub next : IsNext c x z
  pub there : IsProduction c.grammar x.production q
  pub occurs : item_at q j ≡ Some x'

pub same_production : (c : Setting) (p : ℕ) {q r : Production} → IsProduction c.grammar p q → IsProduction c.grammar p r → q ≡ r
same_production c p {q} {r} a b = let e : Some q ≡ Some r = cc in cc

abbrev pub IsGivingOf : ℕ → ℕ → ℕ → Instr → Type 0
IsGivingOf j a r z = (z ≡ instr.Set j a r) ⊎ ((z ≡ instr.Def a r) × (j ≡ 0))

-- A node's own values in its row are those at place 0.
pub stored_same : (c : Setting) (q : Production) (f h : ℕ → Value) (s : Table) → ((a : ℕ) → f a ≡ h a)
    → stored c q f s ≡ stored c q h s
stored_same c q f h s same = cc (same_values c.write (c.passes q.left) f h (λ a p is le. same a))

-- If the row of a child at a place begins with these values, they agree with those that were read.
abbrev pub HasAgreed : Setting → Production → OpenNode → ℕ → Item → List Value → (ℕ → Value) → Type 0
HasAgreed c q x j x' values h = (f : ℕ → Value) (rest : List Value)
    → drop (x.base + copy_start c q j) values ≡ values_up_to c.write (copied_passes c x') f ++ rest → AgreeAt c x' f h

-- After a record was read, the pass continues with these open nodes.
abbrev pub ReadsOn : Setting → ℕ → List OpenNode → List Value → Transcript → List ℕ → ℕ → Pending → Type 0
ReadsOn c root xs values t body now todo = (next : Pending)
    × (AreRecords (source c) t.read todo → AreRecords (source c) (t.read ++ body ∷ []) next)
    × RunInvariant c root xs values (record { read = t.read ++ body ∷ []; put = t.put }) now next

-- The copies at a place, in a row that comes after other values.
pub copies_there : (c : Setting) (q : Production) (f : ℕ → Value) (s : Table) (under row : List Value) (b : ℕ)
    {base : ℕ} {x : Item} → base ≡ length under → slice_get (stored_items q.items) b ≡ Some x
    → (rest : List Value)
    × (drop (base + copy_start c q (suc b)) (under ++ (stored c q f s ++ row)) ≡ values_up_to c.write (copied_passes c x)
    (s (suc b)) ++ rest)
copies_there c q f s under row b {base} {x} is at =
    let r = row_split c q f s b at in
    let share = values_up_to c.write (copied_passes c x) (s (suc b)) in (
      r.1 ++ row,
      cc (
        r.3 s (λ j a z. refl),
        append_assoc r.0 (share ++ r.1) row,
        append_assoc share r.1 row,
        append_assoc under r.0 (share ++ (r.1 ++ row)),
        drop_at (under ++ r.0) (share ++ (r.1 ++ row)) (base + copy_start c q (suc b))
            (omega (arith, r.2, length-append under r.0)),
      ),
    )

-- If the next instruction runs a rule, one rule fewer is left after it.
pub rules_next : (c : Setting) (x : OpenNode) {z : Instr} → IsNext c x z → rules_left c x ≡ cond (is_computation z) 1 0
    + count_by is_computation (drop (x.at + 1) (list_at c x.production))
rules_next c x {z} at =
    cc (next_is (list_at c x.production) x.at z at, count_more is_computation z (drop (x.at + 1) (list_at c x.production)))

-- The innermost open node is in the phase in which its next instruction may run.
module _ {c : Setting} {entry : Entry} {level : ℕ} {x : OpenNode} {ph : Phase} {values : List Value} {t : Transcript} {now : ℕ}
    {todo : Pending} (o : IsActive c entry level x ph values t now todo) where
  abbrev pub IsIn : Phase → Type 0
  IsIn ph = IsActive c entry level x ph values t now todo

  -- The rest of the list, which may run, is the next instruction followed by those after it.
  pub runs_next : {z : Instr} → IsNext c x z
      → Runs c.passes o.production c.write (state_of ph o.i o.done) (z ∷ drop (x.at + 1) (list_at c x.production))
  runs_next {z} at =
      rw (next_is (list_at c x.production) x.at z at) at o.runs

  pub at_get : {j : ℕ} → IsNext c x (instr.Get j) → IsIn Between
  at_get at = subst IsIn (runs_next at).0.phase_is o

  pub at_go : {j : ℕ} → IsNext c x (instr.Go j) → IsIn Got
  at_go at = subst IsIn (runs_next at).0.0.phase_is o

  pub at_put : {j : ℕ} → IsNext c x (instr.Put j) → IsIn Gone
  at_put at = subst IsIn (runs_next at).0.phase_is o

  pub at_end : IsNext c x instr.End → IsIn Between
  at_end at = subst IsIn (runs_next at).0.0 o

  -- The target of an instruction that runs a rule is at the node itself, or at the child whose record was read.
  pub give_next : {j a r : ℕ} {z : Instr} → IsGivingOf j a r z → IsNext c x z
      → MayCompute c.passes o.production c.write (state_of ph o.i o.done) j a r
      × IsPlaced c o.production (state_of ph o.i o.done) j × (is_computation z ≡ true)
      × Runs c.passes o.production c.write (state_of ph o.i (r ∷ o.done)) (drop (x.at + 1) (list_at c x.production))
  give_next {j} {a} {r} giving at =
      elim giving [
        | inl is ↦ let g = rw is at (runs_next at) in (g.0.1, inr g.0.0, cc, g.1)
        | inr is ↦ let g = rw is.0 at (runs_next at) in (rw is.1 g.0.1, inl is.1, cc, g.1)
      ]

  -- The node is done: its tree was read, and written except for its own record, whose values are the node's row.
  -- The others are still to be read.
  pub record IsDone : Type 0 where
    pub ready : IsReady c (item.Symbol entry.symbol) x.production (o.table 0) (node x.production o.trees)
        (graft (o.table 0) o.valuations) entry.old t
    pub deep : depth_of (node x.production o.trees) + level ≤ suc max_depth
    pub record_is : root_body
        (bodies_of version_two c.grammar c.passes c.write (node x.production o.trees) (graft (o.table 0) o.valuations))
        ≡ body_of Node x.production (stored c o.production (o.table 0) o.copied)
    pub whole : values ≡ entry.under ++ stored c o.production (o.table 0) o.copied
    pub counted : now ≡ entry.before + rules_of_pass c.passes c.write c.grammar (node x.production o.trees)
    pub todo_is : todo ≡ entry.others

module _ {c : Setting} (sound : IsSound c) where
  -- The list of a production has an instruction for each of its rules of the pass.
  rules_first : (p : ℕ) (q : Production) → IsProduction c.grammar p q
      → count_by is_computation (list_at c p) ≡ pass_rule_count c.passes c.write (Some q)
  rules_first p q there =
      let n = sound.next in
      lists_evaluate_rules c.passes q c.write (list_at c p)
      (agrees c.passes q c.write (list_at c p) (omega arith) (sound.course p q there))

  -- At `End`, which is the last instruction of a list, no rule is left to be run.
  rules_last : (x : OpenNode) (q : Production) → IsProduction c.grammar x.production q → IsNext c x instr.End
      → rules_left c x ≡ 0
  rules_last x q there at =
      let xs = list_at c x.production in
      let last =
      (agrees c.passes q c.write xs (omega (arith, sound.next)) (sound.course x.production q there)).ends.last x.at at in
      omega (arith, ap (count_by is_computation) (drop_all (x.at + 1) xs (omega (arith, last))), rules_next c x at)

  -- A node whose record was just read.
  pub opened : (p : ℕ) {q : Production} (entry : Entry) (e : Table) (level : ℕ) {base : ℕ} → IsProduction c.grammar p q
      → q.left ≡ entry.symbol → level ≤ max_depth → base ≡ length entry.under
      → IsActive c entry level (first_at p base) Between (entry.under ++ stored c q entry.own e)
      (after_reading c p entry.own (copies c c.read (stored_items q.items) (in_children e)) entry.old) entry.before
      (following c q e 0 (suc level) entry.others)
  opened p {q = q} entry e level {base} there left deep is =
      let got = after_reading c p entry.own (copies c c.read (stored_items q.items) (in_children e)) entry.old in
      record {
        production = q;
        i = 0;
        done = [];
        table = node_table entry.own e;
        copied = e;
        of_child = e;
        row = [];
        trees = none;
        valuations = λ i path a. entry.own a;
        mid = got;
        count = 0;
        is_open = record {
          there = there;
          left = left;
          entered = λ a p at le other. refl;
          visits = record {
            fits = fits_none (pass_direction c) c.grammar (stored_items q.items);
            solved = tt;
            well = tt;
            read = sym (append-nil got.read);
            put = sym (append-nil entry.old.put);
            deep = omega (arith, deep);
          };
          roots = λ b a l. absurd (omega arith);
          held = λ r u has num. let z = has.1 in absurd cc;
        };
        runs = sound.course p q there;
        agreement = λ j a p x at is le when. refl;
        current = (refl, refl, refl);
        counted = omega (arith, rules_first p q there);
        values_are = cc (append-nil (stored c q entry.own e));
        base = is;
        todo_is = refl;
      }

  module _ {entry : Entry} {level : ℕ} {x : OpenNode} {values : List Value} {t : Transcript} {now : ℕ} {todo : Pending} where
    -- The state at the next place after a record was read there: the copies and the row of the child, its progress, the agreement
    -- of the node's copies, the values, and the children still to be read.
    read_child : (o : IsActive c entry level x Between values t now todo) (x' : Item) (p : ℕ)
        (body : List ℕ) (new : List Value) (read : IsRead c x' p body values new) → level < max_depth → o.i < arity o.production
        → item_at o.production (place_of o.production c.write o.i) ≡ Some x'
        → AgreeAt c x' (o.copied (place_of o.production c.write o.i)) (read_values c x' p body values new read)
        → (of_child : Table) × (row : List Value)
        × IsCurrent c o.production (after_get (Some x')) o.i level p
        (with_row o.table (place_of o.production c.write o.i) (read_values c x' p body values new read)) of_child row o.mid
        (record { read = t.read ++ body ∷ []; put = t.put }) 0
        × AgreesSoFar c o.production (run_count (after_get (Some x')) o.i)
        (with_row o.table (place_of o.production c.write o.i) (read_values c x' p body values new read)) o.copied
        × (kept_values x' values new ≡ entry.under ++ (stored c o.production (o.table 0) o.copied ++ row))
        × (before_others (other (direction_of c.read)) (suc (suc level)) (children_read c x' p body values new read)
        (following c o.production o.table (suc o.i) (suc level) entry.others)
        ≡ pending c o.production (after_get (Some x')) o.i p o.table of_child (suc level) entry.others)
    read_child o (item.Symbol s') p body new read deep within occurs agree =
        let q = o.production in
        let pl = place_of q c.write o.i in
        let h = read.values in
        let own = stored c q (o.table 0) o.copied in
        let of_child = first_row h read.table in
        let child_row = stored c read.production h of_child in
        let row : child_row ≡ values_up_to c.write (c.passes s') h ++ copies c c.write
        (stored_items read.production.items) read.table = cc in (
          of_child,
          child_row,
          (
            record {
              symbol = s';
              occurs = occurs;
              production = read.production;
              there = read.there;
              left = read.left;
              transcript = cc (with_is o.table pl h);
              deep = deep;
            },
            refl,
            cc (with_is o.table pl h),
          ),
          shown_row c q o.i o.i o.table o.copied (nth (pass_direction c) (arity q) o.i) (item.Symbol s') h occurs agree sound.next
              (λ b apart k. k) (λ a n at k. absurd (known_differs c q o.i pl within k refl)) o.agreement,
          cc (append-nil own, append_assoc entry.under own child_row),
          cc (of_node_is sound p read.production of_child (suc (suc level))
              (following c q o.table (suc o.i) (suc level) entry.others) read.there),
        )
    read_child o (item.Terminal (Class d)) p body new (same, read) deep within occurs agree =
        let q = o.production in
        let h : ℕ → Value = λ a. Text read.text in (
          o.of_child,
          [],
          (
            record {
              item = item.Terminal (Class d);
              occurs = occurs;
              tree = leaf d read.text;
              values = λ path. h;
              evaluated = record { fits = (refl, read.fits); solved = refl; well = λ a p at le. read.well };
              number = sym same;
              root = λ a. sym (with_here o.table (place_of q c.write o.i) h a);
              read = cc;
              put = cc (append-nil o.mid.put);
              counted = refl;
              deep = omega arith;
            },
            refl,
          ),
          shown_row c q o.i (suc o.i) o.table o.copied (nth (pass_direction c) (arity q) o.i) (item.Terminal (Class d)) h occurs
              agree sound.next
              (λ b' apart k. elim (known_last c q o.i (suc b') k) [ inl l ↦ l | inr here ↦ absurd (apart (omega arith)) ])
              (λ a n at k. zero_pass a n at) o.agreement,
          cc,
          refl,
        )
      where
        zero_pass : (a n : ℕ) → slice_get (0 ∷ []) a ≡ Some n → n < c.write
        zero_pass zero n at = let e : 0 ≡ n = cc in omega (arith, sound.next)
        zero_pass (suc a) n at = absurd cc
    read_child o (item.Terminal (Literal l)) p body new read deep within occurs agree = elim read [ ]

    -- The pass leaves the tree at the next place, all of which was written.
    left_in : {new : Transcript} {j : ℕ} → IsNext c x (instr.Put j)
        → (o : IsActive c entry level x Gone values t now todo) → new.read ≡ t.read
        → new.put ≡ o.mid.put ++ postfix (pass_direction c)
        (bodies_of version_two c.grammar c.passes c.write o.current.0.tree o.current.0.values)
        → IsActive c entry level (after_step x x.child) Between values new now todo
    left_in {new} at o reads puts =
        let q = o.production in
        let next = runs_next o at in
        let g = o.current.0 in
        record {
          production = q;
          i = suc o.i;
          done = o.done;
          table = o.table;
          copied = o.copied;
          of_child = o.of_child;
          row = [];
          trees = add_tree (pass_direction c) o.trees g.tree;
          valuations = add_values (pass_direction c) o.trees o.valuations g.values;
          mid = new;
          count = 0;
          is_open = put_child sound next.0.within g reads puts o.is_open;
          runs = next.1;
          agreement = o.agreement;
          current = (refl, refl, refl);
          counted = omega (arith, o.counted, g.counted, rules_add (pass_direction c) c o.trees g.tree, rules_next c x at);
          values_are = cc;
          base = o.base;
          todo_is = o.todo_is;
        }

    -- A node is done, whose row is the last one.
    node_done : IsNext c x instr.End → All IsWell values
        → (o : IsActive c entry (suc level) x Between values t now todo) → IsDone o
    node_done at well o =
        let q = o.production in
        let next = (runs_next o at).0 in
        let row = stored c q (o.table 0) o.copied in
        let whole : values ≡ entry.under ++ row = cc (append-nil row) in
        let own = values_up_to c.write (c.passes q.left) (o.table 0) in
        let copied = copies c c.write (stored_items q.items) (in_children o.copied) in
        let own_well : All IsWell own =
        All-before IsWell own copied (All-after IsWell entry.under (own ++ copied) (rw whole at well)) in
        let done =
        ended sound o.copied next.1 next.2 own_well o.agreement
        (rw (← o.current.0) at o.is_open) in
        record {
          ready = done.0;
          deep = omega (arith, done.1);
          record_is = done.2;
          whole = whole;
          counted =
              omega (
                arith,
                o.counted,
                o.current.1,
                rules_last x q o.is_open.there at,
                ap (pass_rule_count c.passes c.write) o.is_open.there,
              );
          todo_is = cc (after_last c q o.table o.i (suc (suc level)) entry.others next.1);
        }

  -- The root is done.
  pub step_end_root : (root : ℕ) {x : OpenNode} {values : List Value} {t : Transcript} {now : ℕ} {todo : Pending}
      → IsNext c x instr.End → All IsWell values
      → RunInvariant c root (x ∷ []) values t now todo → RunInvariant c root [] values t now todo
  step_end_root root {x} {values} {t} at well
      (entry, (first, number, none_under, transcript, none_before, none_left), ph, here) =
      let o = at_end here at in
      let q = o.production in
      let row = stored c q (o.table 0) o.copied in
      let tree = node x.production o.trees in
      let values_at = graft (o.table 0) o.valuations in
      let done = node_done at well o in
      let single_value : values ≡ row = done.whole ∙ ap (λ vs. vs ++ row) none_under in
      record {
        tree = tree;
        valuation = values_at;
        ready = subst (λ z. IsReady c (item.Symbol c.grammar.start) root (o.table 0) tree values_at z t) transcript
            (subst (λ p. IsReady c (item.Symbol c.grammar.start) p (o.table 0) tree values_at entry.old t) number
            (subst (λ s. IsReady c (item.Symbol s) x.production (o.table 0) tree values_at entry.old t) first done.ready));
        counted = omega (arith, done.counted);
        deep = omega (arith, done.deep);
        few =
            omega (
              arith,
              few_values c sound x.production q o.is_open.there,
              length_stored c q (o.table 0) o.copied,
              ap length single_value,
            );
        record_is = cc;
        nothing = cc;
      }

  -- The values of a node's synthesized attributes were moved to their copies in the row of the parent,
  -- which waited.
  moved_copies : (q : Production) (f : ℕ → Value) (s : Table) (under others : List Value) (b : ℕ) (h : ℕ → Value) {x : Item}
      {to count from : ℕ} {row values : List Value}
      → slice_get (stored_items q.items) b ≡ Some x → to ≡ length under + copy_start c q (suc b) → count ≡ copied_width c x
      → from ≡ length (under ++ stored c q f s) → row ≡ values_up_to c.write (copied_passes c x) h ++ others
      → values ≡ (under ++ stored c q f s) ++ row
      → take to values ++ (take count (drop from values) ++ drop (to + count) (take from values)) ≡ under ++ stored c q f
      (with_row s (suc b) h)
  moved_copies q f s under others b h {x} {to} {count} {from} {row} {values} at to_is count_is from_is row_is values_are =
      let ps = copied_passes c x in
      let r = row_split c q f s b at in
      let old_share = values_up_to c.write ps (s (suc b)) in
      let share = values_up_to c.write ps h in
      let prefix = under ++ r.0 in
      let was : under ++ stored c q f s ≡ prefix ++ (old_share ++ r.1) =
      cc (r.3 s (λ j a z. refl), append_assoc under r.0 (old_share ++ r.1)) in
      let now : under ++ stored c q f (with_row s (suc b) h) ≡ prefix ++ (share ++ r.1) =
      cc (
        r.3 (with_row s (suc b) h) (λ j a z. with_other s (suc b) h (suc j) a (λ y. z (omega arith))),
        append_assoc under r.0 (share ++ r.1),
        with_is s (suc b) h,
      ) in
      let m = r.2 in
      let k = length-append under r.0 in
      let o = length_row c.write ps (s (suc b)) in
      let w = length_row c.write ps h in
      let z = length-append prefix old_share in
      let long : length prefix ≡ to = omega arith in
      let beginning : take to values ≡ prefix =
      cc (append_assoc prefix (old_share ++ r.1) row, take_at prefix ((old_share ++ r.1) ++ row) to long) in
      let middle : take count (drop from values) ≡ share =
      cc (drop_at (under ++ stored c q f s) row from (sym from_is), take_at share others count (omega arith)) in
      let end : drop (to + count) (take from values) ≡ r.1 =
      cc (
        take_at (under ++ stored c q f s) row from (sym from_is),
        append_assoc prefix old_share r.1,
        drop_at (prefix ++ old_share) r.1 (to + count) (omega arith),
      ) in cc

  -- A node is done, and another one waits for it.
  pub step_end : (root : ℕ) {x y : OpenNode} (ys : List OpenNode) {values result : List Value} {t : Transcript} {now : ℕ}
      {todo : Pending} {to count : ℕ} → IsNext c x instr.End → All IsWell values
      → ((q : Production) (x' : Item) → IsProduction c.grammar y.production q → item_at q y.place ≡ Some x'
      → (to ≡ y.base + copy_start c q y.place) × (count ≡ copied_width c x'))
      → result ≡ take to values ++ (take count (drop x.base values) ++ drop (to + count) (take x.base values))
      → RunInvariant c root (x ∷ y ∷ ys) values t now todo
      → RunInvariant c root (y ∷ ys) result
      (record { read = t.read; put = t.put ++ body_of Node x.production (drop x.base values) ∷ [] }) now todo
  step_end root {x} {y} ys {values} {t = t} {to = to} {count = count} at well slots result_is
      (entry, (outer, waits, z), ph, here) =
      let o = at_end here at in
      let done = node_done at well o in
      let h = o.table 0 in
      let q = z.production in
      let b = nth (pass_direction c) (arity q) z.i in
      let pl = place_of q c.write z.i in
      let e = with_row z.table pl h in
      let at_place : item_at q y.place ≡ Some (item.Symbol entry.symbol) = cc in
      let slot = slots q (item.Symbol entry.symbol) z.is_open.there at_place in
      let begins = begins_with_copy c (item.Symbol entry.symbol) h in
      let child_row = stored c o.production h o.copied in
      let copied_rest = copies c c.write (stored_items o.production.items) (in_children o.copied) in
      let share = values_up_to c.write (copied_passes c (item.Symbol entry.symbol)) h in
      let row : child_row ≡ share ++ (begins.0 ++ copied_rest) = cc (append_assoc share begins.0 copied_rest) in
      let to_is : to ≡ length outer.under + copy_start c q pl = cc in
      let keeps' : Keeps c entry.symbol (z.table pl) h =
      λ a n is le other. o.is_open.entered a n is le other ∙ sym (z.row_is a) in
      let agree = kept_copy sound entry.symbol (z.table pl) h keeps' in
      let bt = bodies_of version_two c.grammar c.passes c.write (node x.production o.trees) (graft h o.valuations) in (
        outer,
        waits,
        Gone,
        record {
          production = q;
          i = z.i;
          done = z.done;
          table = e;
          copied = with_row z.copied pl h;
          of_child = o.copied;
          row = [];
          trees = z.trees;
          valuations = z.values;
          mid = entry.old;
          count = rules_of_pass c.passes c.write c.grammar (node x.production o.trees);
          is_open =
              returned sound z.within z.occurs keeps' z.is_open;
          runs = z.runs;
          agreement =
              shown_both c q z.i (suc z.i) z.table z.copied b h
              (λ b' apart k. elim (known_last c q z.i (suc b') k) [ inl l ↦ l | inr here ↦ absurd (apart (omega arith)) ])
              z.agreement;
          current = (
            record {
              item = item.Symbol entry.symbol;
              occurs = z.occurs;
              tree = node x.production o.trees;
              values = graft h o.valuations;
              evaluated = done.ready.evaluated;
              number = cc;
              root = λ a. sym (with_here z.table pl h a);
              read = done.ready.read;
              put =
                  cc (
                    done.whole,
                    done.record_is,
                    drop_at entry.under child_row x.base (sym o.base),
                    append_assoc entry.old.put (below (pass_direction c) bt) (root_body bt ∷ []),
                    whole (pass_direction c) bt,
                  );
              counted = refl;
              deep = omega (arith, done.deep);
            },
            refl,
          );
          counted = omega (arith, z.counted, done.counted);
          values_are =
              cc (
                moved_copies q (z.table 0) z.copied outer.under (begins.0 ++ copied_rest) b h z.occurs to_is slot.1
                    (o.base ∙ ap length z.under_is) row (done.whole ∙ ap (λ vs. vs ++ child_row) z.under_is),
                stored_same c q (z.table 0) (e 0) (with_row z.copied pl h)
                    (λ a. sym (with_other z.table pl h 0 a (λ y. omega arith))),
                append-nil (stored c q (e 0) (with_row z.copied pl h)),
              );
          base = z.base;
          todo_is = cc (copies_row c q z.table b h z.occurs agree);
        },
      )
    where
      whole : (d : Direction) (b : BodyTree) → below d b ++ root_body b ∷ [] ≡ postfix d b
      whole d (branch body ts) = refl

  module _ (root : ℕ) {x : OpenNode} (xs : List OpenNode) {values : List Value} {t : Transcript} {now : ℕ} {todo : Pending} where
    -- The record of a child was read.
    pub step_read : {j : ℕ} {q0 : Production} {x' : Item} (p : ℕ) (body : List ℕ) (new : List Value)
        (read : IsRead c x' p body values new) → IsAtChild c x (instr.Get j) j q0 x' → suc (length xs) < max_depth
        → HasAgreed c q0 x j x' new (read_values c x' p body values new read) → RunInvariant c root (x ∷ xs) values t now todo
        → ReadsOn c root (after_step x p ∷ xs) (kept_values x' values new) t body now todo
    step_read {j} {q0} {x'} p body new read there deep agreed (entry, waits, ph, here) =
        let o = at_get here there.next in
        let level = suc (length xs) in
        let q = o.production in
        let next = runs_next o there.next in
        let within = next.0.within in
        let place = next.0.place in
        let b = nth (pass_direction c) (arity q) o.i in
        let pl = place_of q c.write o.i in
        let h = read_values c x' p body values new read in
        let e = with_row o.table pl h in
        let same : q0 ≡ q = same_production c x.production there.there o.is_open.there in
        let item_is : item_at q j ≡ Some x' = cc there.occurs in
        let occurs : item_at q pl ≡ Some x' = cc in
        let own = stored c q (o.table 0) o.copied in
        let more = read_row c x' p body values new read in
        let whole : new ≡ entry.under ++ (own ++ more.0) = cc (more.1, append-nil own, append_assoc entry.under own more.0) in
        let found = copies_there c q (o.table 0) o.copied entry.under more.0 b o.base occurs in
        let slot : copy_start c q0 j ≡ copy_start c q pl = cc in
        let agree = agreed (o.copied pl) found.0 (cc whole) in
        let agree' = agree_table c q o.i o.table o.copied b x' h occurs sound.next o.agreement agree in
        let copied = copies_row c q o.table b h occurs agree' in
        let copy = values_up_to c.read (copied_passes c x') (o.table pl) in
        let rest = following c q o.table (suc o.i) (suc level) entry.others in
        let first : todo ≡ (suc level, (x', Some copy)) ∷ rest =
        cc (after_next c q o.table o.i (suc level) entry.others within occurs) in
        let ys = children_read c x' p body values new read in
        let child = read_child o x' p body new read deep within occurs agree in (
          before_others (other (direction_of c.read)) (suc (suc level)) ys rest,
          (λ expected. leaves_on (source c) (other (direction_of c.read)) t.read body (suc level) (x', Some copy) ys
              (pending_root c.grammar) rest (rw first at expected) (omega arith)
              (is_record c x' p body values new read (Some copy) (cc))),
          (
            entry,
            waits,
            after_get (Some x'),
            record {
              production = q;
              i = o.i;
              done = o.done;
              table = e;
              copied = o.copied;
              of_child = child.0;
              row = child.1;
              trees = o.trees;
              valuations = o.valuations;
              mid = o.mid;
              count = 0;
              is_open = met_child sound h within occurs agree' o.is_open;
              runs = rw item_is at next.1;
              agreement = child.3;
              current = child.2;
              counted = omega (arith, o.counted, o.current.1, rules_next c x there.next);
              values_are =
                  cc (
                    child.4,
                    stored_same c q (o.table 0) (e 0) o.copied (λ a. sym (with_other o.table pl h 0 a (λ z. omega arith))),
                  );
              base = o.base;
              todo_is =
                  child.5 ∙ sym (pending_same c q (after_get (Some x')) o.i p e o.table child.0 (suc level) entry.others copied);
            },
          ),
        )

    pub step_go : {j base : ℕ} → IsNext c x (instr.Go j)
        → ((q : Production) → IsProduction c.grammar x.child q → base + stored_width c q ≡ length values)
        → RunInvariant c root (x ∷ xs) values t now todo
        → RunInvariant c root (first_at x.child base ∷ left_at x j ∷ xs) values t now todo
    step_go {j} {base} at is (entry, waits, ph, here) =
        let o = at_go here at in
        let q = o.production in
        let next = runs_next o at in
        let pl = place_of q c.write o.i in
        let g = o.current.0 in
        let h = o.table pl in
        let level = suc (length xs) in
        let rest = entry.under ++ stored c q (o.table 0) o.copied in
        let child_row = stored c g.production h o.of_child in
        let vs : values ≡ rest ++ child_row = cc (append_assoc entry.under (stored c q (o.table 0) o.copied) child_row) in
        let base' : base ≡ length rest =
        omega (
          arith,
          is g.production g.there,
          length_stored c g.production h o.of_child,
          length-append rest child_row,
          ap length vs,
        ) in
        let deep = g.deep in
        let following_it = following c q o.table (suc o.i) (suc level) entry.others in
        let inner : Entry =
        record { symbol = g.symbol; own = h; under = rest; old = o.mid; before = now; others = following_it } in
        let child = opened x.child inner o.of_child (suc level) g.there g.left (omega arith) base' in
        let same_todo : todo ≡ following c g.production o.of_child 0 (suc (suc level)) following_it =
        o.todo_is ∙ ap (λ p. pending_of_child c p o.of_child (suc (suc level)) following_it) g.there in (
          inner,
          (
            entry,
            waits,
            record {
              production = q;
              i = o.i;
              done = o.done;
              table = o.table;
              copied = o.copied;
              trees = o.trees;
              values = o.valuations;
              is_open = o.is_open;
              runs = next.1;
              counted = omega (arith, o.counted, o.current.1, rules_next c x at);
              agreement = o.agreement;
              within = next.0.0.within;
              occurs = g.occurs;
              place_is = next.0.0.place;
              number = refl;
              row_is = λ a. refl;
              under_is = refl;
              base = o.base;
              deep = deep;
              todo_is = refl;
            },
          ),
          Between,
          subst
              (λ (z : Pending). IsActive c inner (suc level) (first_at x.child base) Between values t now z) (sym same_todo)
              (subst
              (λ t. IsActive c inner (suc level) (first_at x.child base) Between values t now
              (following c g.production o.of_child 0 (suc (suc level)) following_it)) (cc)
              (subst
              (λ vs. IsActive c inner (suc level) (first_at x.child base) Between vs
              (after_reading c x.child h (copies c c.read (stored_items g.production.items) (in_children o.of_child)) o.mid)
              now (following c g.production o.of_child 0 (suc (suc level)) following_it)) (sym vs) child)),
        )

    -- At the `Put` of a child that is a node nothing is written: its whole tree was written before.
    pub step_put_node : {j s' : ℕ} {q0 : Production} → IsAtChild c x (instr.Put j) j q0 (item.Symbol s')
        → RunInvariant c root (x ∷ xs) values t now todo → RunInvariant c root (after_step x x.child ∷ xs) values t now todo
    step_put_node {j} {s'} {q0} there (entry, waits, ph, here) =
        let o = at_put here there.next in
        let q = o.production in
        let place = (runs_next o there.next).0.place in
        let g = o.current.0 in
        let same : q0 ≡ q = same_production c x.production there.there o.is_open.there in
        let items : Some g.item ≡ Some (item.Symbol s') = cc there.occurs in
        let is : g.item ≡ item.Symbol s' = cc in (
          entry,
          waits,
          Between,
          left_in there.next o refl
              (cc (whole g.tree g.values (rw is at g.evaluated))),
        )
      where
        whole : (u : Tree) (w : Valuation) → IsEvaluatedTree c (item.Symbol s') u w
            → put_of (pass_direction c) u (bodies_of version_two c.grammar c.passes c.write u w) ≡ postfix (pass_direction c)
            (bodies_of version_two c.grammar c.passes c.write u w)
        whole (leaf d text) w evaluated = elim evaluated.fits [ ]
        whole (node p ts) w evaluated = refl

    -- The record of a token is written. The token's text is among the copies.
    pub step_put_leaf : {j d : ℕ} {q0 : Production} {text : List Value}
        → IsAtChild c x (instr.Put j) j q0 (item.Terminal (Class d)) → text ≡ take 1 (drop (x.base + copy_start c q0 j) values)
        → RunInvariant c root (x ∷ xs) values t now todo
        → RunInvariant c root (after_step x x.child ∷ xs) values
        (record { read = t.read; put = t.put ++ body_of Token x.child text ∷ [] }) now todo
    step_put_leaf {j} {d} {q0} {text} there is (entry, waits, ph, here) =
        let o = at_put here there.next in
        let q = o.production in
        let place = (runs_next o there.next).0.place in
        let g = o.current.0 in
        let b = nth (pass_direction c) (arity q) o.i in
        let pl = place_of q c.write o.i in
        let x' = item.Terminal (Class d) in
        let same : q0 ≡ q = same_production c x.production there.there o.is_open.there in
        let occurs : item_at q pl ≡ Some (item.Terminal (Class d)) = cc there.occurs in
        let items : Some g.item ≡ Some (item.Terminal (Class d)) = cc occurs in
        let item_is : g.item ≡ item.Terminal (Class d) = cc in
        let found = copies_there c q (o.table 0) o.copied entry.under o.row b o.base occurs in
        let slot : copy_start c q0 j ≡ copy_start c q pl = cc in
        let first : text ≡ o.copied pl 0 ∷ [] =
        is ∙ ap (λ n. take 1 (drop (x.base + n) values)) slot
        ∙ ap (λ vs. take 1 (drop (x.base + copy_start c q pl) vs)) o.values_are ∙ ap (take 1) found.1
        ∙ ap (λ b. take 1 (((if b then o.copied pl 0 ∷ [] else []) ++ []) ++ found.0)) (le-leb 0 c.write (omega arith)) in
        let shown : o.copied pl 0 ≡ o.table pl 0 =
        o.agreement b 0 0 x' occurs refl (omega arith) (inr (known_here c q o.i pl refl)) in
        let evaluated = rw item_is at g.evaluated in (
          entry,
          waits,
          Between,
          left_in there.next o refl
              (put_all g.tree g.values (o.mid.put) t.put text evaluated g.number g.put
              (cc (first, g.root 0))),
        )
      where
        put_all : (u : Tree) (w : Valuation) (before_it put : List (List ℕ)) (text : List Value)
            → IsEvaluatedTree c (item.Terminal (Class d)) u w → root_number u ≡ x.child
            → put ≡ before_it ++ put_of (pass_direction c) u (bodies_of version_two c.grammar c.passes c.write u w)
            → text ≡ w [] 0 ∷ []
            → put ++ body_of Token x.child text ∷ [] ≡ before_it ++ postfix (pass_direction c)
            (bodies_of version_two c.grammar c.passes c.write u w)
        put_all (node p ts) w before_it put text evaluated number is same = elim evaluated.fits [ ]
        put_all (leaf e string) w before_it put text evaluated number is same = cc (append-nil before_it)

    -- The first child to be read at a `Get`, with the copy of its values in the row of the node.
    pub get_first : {j : ℕ} {q0 : Production} {x' : Item} → IsAtChild c x (instr.Get j) j q0 x'
        → RunInvariant c root (x ∷ xs) values t now todo
        → (f : ℕ → Value) × (left : Pending)
        × (todo ≡ (suc (suc (length xs)), (x', Some (values_up_to c.read (copied_passes c x') f))) ∷ left)
        × ((row : List Value) → (rest : List Value)
        × (drop (x.base + copy_start c q0 j) (values ++ row) ≡ values_up_to c.write (copied_passes c x') f ++ rest))
    get_first {j} {q0} {x'} there (entry, waits, ph, here) =
        let o = at_get here there.next in
        let q = o.production in
        let level = suc (suc (length xs)) in
        let turn = (runs_next o there.next).0 in
        let b = nth (pass_direction c) (arity q) o.i in
        let pl = place_of q c.write o.i in
        let same : q0 ≡ q = same_production c x.production there.there o.is_open.there in
        let occurs : item_at q pl ≡ Some x' = cc there.occurs in
        let same_copies = agree_table c q o.i o.table o.copied b x' (o.copied pl) occurs sound.next o.agreement refl in
        let slot : copy_start c q0 j ≡ copy_start c q pl = cc in
        let kept : values ≡ entry.under ++ stored c q (o.table 0) o.copied =
        cc (append-nil (stored c q (o.table 0) o.copied)) in (
          o.copied pl,
          following c q o.table (suc o.i) level entry.others,
          cc (after_next c q o.table o.i level entry.others turn.within occurs, same_copies),
          (λ row.
              let found = copies_there c q (o.table 0) o.copied entry.under row b o.base occurs in (
                found.0,
                cc (append_assoc entry.under (stored c q (o.table 0) o.copied) row),
              )),
        )
