-- The children still to be read at each step.
use Rattle.passrun.proofs.Common
use Common.{HasFetched, Bool, ℕ, suc, ◌≡◌, ◌<◌, ◌≤◌, true, List, [], ◌∷◌, Option, Some, None, Result, Ok, Err, Bor, slice_get}
use Common.{length, refl, sym, arith, Value, Item, Literal, Class, Production, IsProduction, item_at, stored_items, direction_of}
use Common.{other, nth, max_depth, max_nodes, left_passes, FrameFault, next_before, ReadsAs, values_up_to, version_two, Child}
use Common.{MatchesCopy, IsNodeRecord, IsRecordOf, Pending, before_others, children_with_copies, damage_is_there, never_no_file}
use Common.{fits_version_two, one_token, same_node, BackState, Setting, pass_direction, IsSound, RunFault, IsRunFault, following}
use Common.{children_of, pending_of_child, ArrivesAt, IsDamaged, IsReadable, source, run_fault_of_frame, IsMissing, IsUnfetched}
use Common.{Table, copied_passes, copies, in_children, AgreeAt, IsRead, read_values, copies_counted, copies_well, mended, tabled}
use Common.{◌++◌, Ended, IsNodeRead, Phase, Text, pending}
use Common.item
use Common.frame_fault
use Common.fault
use Rattle.ag_value.proofs.operations.Wells.{well_text}
use Rattle.treefile.specs.framing.ExpectedRecords as expected
use Rattle.treefile.proofs.framing.PendingChildren.{all_pending, next_pending}
use Rattle.passcode.specs.Course.{arity, place_of}
use Rattle.pass_rows.specs.reading.Reading.{IsNoRecord}
use Rattle.passrun.proofs.places.Copies.{copies_at, copies_length}
use Rattle.passrun.proofs.Damage.{broken, decidable, too_deep, too_many}
use Rattle.passrun.proofs.places.Slots.{copied_is}
use Rattle.passrun.proofs.places.Tables.{same_values, text_row}

-- The children of the record that was read for an item.
abbrev pub children_read : (c : Setting) (x : Item) (p : ℕ) (body : List ℕ) (old new : List Value) → IsRead c x p body old new
    → List Child
children_read c (item.Symbol s) p body old new h =
    children_with_copies true c.grammar c.passes c.read (stored_items h.production.items)
    (copies c c.read (stored_items h.production.items) h.table)
children_read c (item.Terminal (Class d)) p body old new h = []
children_read c (item.Terminal (Literal l)) p body old new h = []

-- The values that were read come after the other values.
pub read_row : (c : Setting) (x : Item) (p : ℕ) (body : List ℕ) (old new : List Value) → IsRead c x p body old new
    → (row : List Value) × (new ≡ old ++ row)
read_row c (item.Symbol s) p body old new h =
    (values_up_to c.write (c.passes s) h.values ++ copies c c.write (stored_items h.production.items) h.table, h.row)
read_row c (item.Terminal (Class d)) p body old new h = (Text h.1.text ∷ [], h.1.row)
read_row c (item.Terminal (Literal l)) p body old new h = elim h [ ]

pub fetched_row : {c : Setting} {x : Item} {p n : ℕ} {honest : Bool} {content : List ℕ} {state state' : BackState}
    {old new : List Value} → HasFetched c x p n honest content state state' old new → (row : List Value) × (new ≡ old ++ row)
fetched_row {c} {x} {p} {old = old} {new} h = read_row c x p h.body old new h.taken

-- The record of a node that was read.
abbrev node_read : (c : Setting) {s p : ℕ} {body : List ℕ} {old new : List Value} (h : IsNodeRead c s p body old new)
    → IsNodeRecord version_two c.grammar c.passes c.read s body p h.production h.values
node_read c h = record {
  production = h.there;
  left = h.left;
  well = λ a n is le. h.well a;
  copies = copies c c.read (stored_items h.production.items) h.table;
  are_copies = (
    copies_counted c c.read (stored_items h.production.items) h.table,
    copies_well c c.read (stored_items h.production.items) h.table h.table_well,
  );
  occurs = h.same;
}

-- A record that was read for an item is a record of this item. With a copy of the item's values: if the values that were read
-- match the copy, the record is one of the item with this copy.
pub is_record : (c : Setting) (x : Item) (p : ℕ) (body : List ℕ) (old new : List Value) (h : IsRead c x p body old new)
    (copy : Option (List Value)) → MatchesCopy copy (values_up_to c.read (copied_passes c x) (read_values c x p body old new h))
    → IsRecordOf version_two c.grammar c.passes c.read (x, copy) body (children_read c x p body old new h)
is_record c (item.Symbol s) p body old new h copy matching = (p, h.production, h.values, node_read c h, refl, matching)
is_record c (item.Terminal (Class d)) p body old new h copy matching =
    (h.1.text, h.1.fits, h.1.same, refl, rw (text_row c.read h.1.text) at matching)
is_record c (item.Terminal (Literal l)) p body old new h copy matching = elim h [ ]

-- A body that is not a record with well values is not a record.
pub no_record : (c : Setting) (x : Item) (body : List ℕ) (copy : Option (List Value)) → IsNoRecord c x body
    → expected.IsNoRecord version_two c.grammar c.passes c.read (x, copy) body
no_record c (item.Symbol s) body copy none ys (p, q, e, is, same, matching) =
    let own = mended c.read (c.passes s) e is.well in
    let row = tabled c c.read (stored_items q.items) is.copies is.are_copies.0 is.are_copies.1 in
    let cs = copies c c.read (stored_items q.items) row.0 in
    let ps : c.passes s ≡ left_passes c.passes (slice_get c.grammar.productions p) = cc in
    none p q own.0 row.0 is.production is.left own.1 row.1
    (cc)
no_record c (item.Terminal (Class d)) body copy none ys (text, fits, is, same, matching) = none text fits is
no_record c (item.Terminal (Literal l)) body copy none ys h = elim h [ ]

-- The children still to be read at a node, one after the other.
pub after_next : (c : Setting) (q : Production) (e : Table) (i level : ℕ) (others : Pending) {x : Item} → i < arity q
    → item_at q (place_of q c.write i) ≡ Some x
    → following c q e i level others ≡ (level, (x, Some (values_up_to c.read (copied_passes c x) (e (place_of q c.write i)))))
    ∷ following c q e (suc i) level others
after_next c q e i level others {x} within occurs =
    let long = copies_length c c.read (stored_items q.items) (copies c c.read (stored_items q.items) (in_children e)) in
    let copy = values_up_to c.read (copied_passes c x) (e (place_of q c.write i)) in
    let child = copies_at c c.read (stored_items q.items) (in_children e) (nth (pass_direction c) (arity q) i) x occurs in
    next_pending (pass_direction c) level i (children_of c q e) (x, Some copy) others (omega arith)
    (rw long child)

pub after_last : (c : Setting) (q : Production) (e : Table) (i level : ℕ) (others : Pending) → i ≡ arity q
    → following c q e i level others ≡ others
after_last c q e i level others full =
    let long = copies_length c c.read (stored_items q.items) (copies c c.read (stored_items q.items) (in_children e)) in
    cc ((all_pending (pass_direction c) level (children_of c q e) others).1)

-- The children still to be read are the same for two tables with the same copies of earlier passes.
pub pending_same : (c : Setting) (q : Production) (ph : Phase) (i child : ℕ) (e h of_child : Table) (level : ℕ) (others : Pending)
    → copies c c.read (stored_items q.items) (in_children e) ≡ copies c c.read (stored_items q.items) (in_children h)
    → pending c q ph i child e of_child level others ≡ pending c q ph i child h of_child level others
pending_same c q Ended i child e h of_child level others same = refl
pending_same c q _ i child e h of_child level others same = cc

module _ {c : Setting} (sound : IsSound c) where
  dir : pass_direction c ≡ other (direction_of c.read)
  dir = cc

  -- All children of a node whose record was read.
  pub of_node_is : (p : ℕ) (q : Production) (e : Table) (level : ℕ) (others : Pending) → IsProduction c.grammar p q
      → pending_of_child c (slice_get c.grammar.productions p) e level others ≡ before_others (other (direction_of c.read)) level
      (children_of c q e) others
  of_node_is p q e level others there = cc ((all_pending (pass_direction c) level (children_of c q e) others).0, dir)

  -- A record that does not agree with the copy in its parent's record is not a record of that child.
  pub differs : (x : Item) (p : ℕ) (body : List ℕ) (old new : List Value) (h : IsRead c x p body old new) (f : ℕ → Value)
      → (AgreeAt c x f (read_values c x p body old new h) → ⊥)
      → expected.IsNoRecord version_two c.grammar c.passes c.read (x, Some (values_up_to c.read (copied_passes c x) f)) body
  differs (item.Symbol s) p body old new h f apart ys (r, w, e, is, same, matching) =
      let one =
      same_node version_two c.grammar c.passes c.read s s p r body h.production w h.values e
      (fits_version_two c.grammar c.passes sound.accepted sound.legal).0 (node_read c h) is in
      apart
      (cc (same_values c.read (copied_passes c (item.Symbol s)) e h.values
      (λ a n at le. sym (one.1 a n (copied_is c (item.Symbol s) a n at) le))))
  differs (item.Terminal (Class d)) p body old new h f apart ys (text, fits, is, same, matching) =
      let t = h.1 in
      let well = well_text text fits.utf8 (omega (arith, fits.short)) in
      let one = one_token d text t.text well t.well (cc) in
      apart (cc (text_row c.read t.text))
  differs (item.Terminal (Literal l)) p body old new h f apart ys bad = elim bad [ ]

  missing_breaks : (x : Item) (copy : Option (List Value)) (level : ℕ) (todo : Pending)
      (found : Result (Option (List ℕ)) FrameFault) → IsMissing c x found
      → expected.Breaks version_two c.grammar c.passes c.read ((level, (x, copy)) ∷ todo) found
  missing_breaks x copy level todo (Err e) h = tt
  missing_breaks x copy level todo (Ok None) h = tt
  missing_breaks x copy level todo (Ok (Some body)) h = no_record c x body copy h

  pub unfetched : {x : Item} (copy : Option (List Value)) (open_count : ℕ) {content : List ℕ} (state : BackState) (todo : Pending)
      (f : RunFault) → IsReadable (source c) content
      → (h : ArrivesAt (source c) content state.progress.at ((suc open_count, (x, copy)) ∷ todo))
      → state.progress.records ≡ length h.bodies
      → IsUnfetched c x open_count content state f → IsRunFault c content f
  unfetched {x} copy n {content} state todo (fault.Damaged at) readable h count (same, missing, deep, few) =
      rw same
      (broken (source c) (decidable sound) content state.progress.at readable (
        (suc n, (x, copy)) ∷ todo,
        h,
        (omega arith, omega arith),
        missing_breaks x copy (suc n) todo (next_before version_two content state.progress.at) missing,
      ))
  unfetched {x} copy n {content} state todo fault.TooDeep readable h count deep =
      too_deep (source c) (decidable sound) content
      (record {
        readable = readable;
        at = state.progress.at;
        level = suc n;
        next = (x, copy);
        others = todo;
        arrival = h;
        deep = omega arith;
      })
  unfetched {x} copy n {content} state todo fault.TooManyNodes readable h count (many, deep) =
      let most = h.few in
      too_many (source c) (decidable sound) content
      (record {
        readable = readable;
        at = state.progress.at;
        level = suc n;
        next = (x, copy);
        others = todo;
        arrival = h;
        within = omega arith;
        full = omega arith;
      })
  unfetched copy n state todo fault.Device readable h count u = tt
  unfetched copy n state todo fault.NoMemory readable h count u = tt

  -- A record that was read and does not agree is damage.
  pub disagreed : {x : Item} (p : ℕ) {level : ℕ} {content body : List ℕ} {at : ℕ} {todo : Pending} (old new : List Value)
      (h : IsRead c x p body old new) (f : ℕ → Value) → (AgreeAt c x f (read_values c x p body old new h) → ⊥)
      → IsReadable (source c) content
      → (here : ArrivesAt (source c) content at ((level, (x, Some (values_up_to c.read (copied_passes c x) f))) ∷ todo))
      → level ≤ max_depth → length here.bodies < max_nodes → next_before version_two content at ≡ Ok (Some body)
      → IsDamaged (source c) content at
  disagreed {x} p {level} {content} {body} {at} {todo} old new h f apart readable here deep few found =
      let first : Pending = (level, (x, Some (values_up_to c.read (copied_passes c x) f))) ∷ todo in
      broken (source c) (decidable sound) content at readable (
        first,
        here,
        (deep, few),
        rw found (differs x p body old new h f apart),
      )

-- If reading a frame fails within the limits, its fault is the reason why no record was read.
pub frame_unfetched : (c : Setting) (x : Item) (open_count : ℕ) (content : List ℕ) (state : BackState)
    (view : Option (Bor (List ℕ)) → Option (List ℕ)) (f : FrameFault) → open_count < max_depth
    → state.progress.records < max_nodes → ReadsAs view (Err f) (next_before version_two content state.progress.at)
    → IsUnfetched c x open_count content state (run_fault_of_frame f)
frame_unfetched c x n content state view frame_fault.NotATreeFile deep few exact =
    absurd (never_no_file version_two content state.progress.at exact)
frame_unfetched c x n content state view (frame_fault.Damaged at) deep few exact =
    (damage_is_there version_two content state.progress.at at exact, rw exact tt, deep, few)
frame_unfetched c x n content state view frame_fault.Device deep few exact = tt
frame_unfetched c x n content state view frame_fault.NoMemory deep few exact = tt
