-- From a running pass to the running pass after a part of a step.
use Rattle.passrun.proofs.Common
use Common.{Vec, flat_map, ℕ, ◌≡◌, ◌-◌, ◌≤◌, Bool, true, List, [], ◌∷◌, ◌++◌, Option, All, length, refl, ap, ◌∙◌, arith}
use Common.{append_assoc, append-nil, length-append, All-append, Value, IsWell, Item, stored_items, Pending, before_frame}
use Common.{LeavesContent, WhenHonest, values_up_to, body_of, frame, header, version_two, reads_on, values_well, BackState}
use Common.{Setting, Machine, OpenNode, AreRecords, source, HasFetched, ContinuesAs, RunInvariant, copies, kept_values, HasPut}
use Common.{copies_well, IsNodeRead, RootPath, Runs, World, with_first_device, with_second_device, with_meter, stack_of}
use Common.item
use Common.writing
use Rattle.std.proofs.lemmas.Grind.{flat_map-append}
use Rattle.treefile.specs.declared.body.Kind.{Kind}

-- The writer's state after a body was written.
pub put_more : (c : Setting) {honest honest' : Bool} {to to' : List ℕ} {out out' : writing.Progress} {kind : Kind} {number : ℕ}
    {values : List Value} (put : List (List ℕ))
    → HasPut kind number values honest' to to' out out' → (honest' ≡ true → honest ≡ true)
    → WhenHonest honest (to ≡ header version_two c.write ++ flat_map frame put)
    → WhenHonest honest' (to' ≡ header version_two c.write ++ flat_map frame (put ++ body_of kind number values ∷ []))
put_more c {kind = kind} {number = number} {values = values} put h before is z =
    let body = body_of kind number values in
    cc (
      h.there z,
      is (before z),
      append_assoc (header version_two c.write) (flat_map frame put) (frame body),
      append-nil (frame body),
      flat_map-append frame put (body ∷ []),
    )

-- The values are well after the record of a node was read.
pub row_well : {c : Setting} {s p : ℕ} {body : List ℕ} {old new : List Value} → IsNodeRead c s p body old new → All IsWell old
    → All IsWell new
row_well {c} {s} {old = old} t well =
    let own = values_up_to c.write (c.passes s) t.values in
    let cs = copies c c.write (stored_items t.production.items) t.table in
    rw t.row (All-append IsWell old (own ++ cs) well
    (All-append IsWell own cs (values_well c.write (c.passes s) t.values (λ a p is le. t.well a))
    (copies_well c c.write (stored_items t.production.items) t.table t.table_well)))

-- The same for an item, without the row of a token.
pub kept_well : {c : Setting} (x : Item) {p n : ℕ} {honest : Bool} {content : List ℕ} {old new : BackState}
    {values read : List Value} → HasFetched c x p n honest content old new values read → All IsWell values
    → All IsWell (kept_values x values read)
kept_well (item.Symbol s) h well = row_well h.taken well
kept_well (item.Terminal t) h well = well

module _ {c : Setting} {w : World} {m : Machine} {node : Option OpenNode} (r : Runs c w m node) where
  -- Nothing was read or written.
  pub still_runs : {meter : ℕ} {values : Vec Value} {waiting : RootPath} {next : Option OpenNode}
      → RunInvariant c waiting.root (stack_of next waiting.nodes) values.items r.transcript (meter - m.begun) r.todo
      → All IsWell values.items → m.begun ≤ meter
      → Runs c (with_meter meter (w.first, w.second)) (record m { values = values; waiting = waiting }) next
  still_runs invariant well begun =
      record {
        transcript = r.transcript;
        todo = r.todo;
        invariant = invariant;
        over = r.over;
        read = r.read;
        records = r.records;
        few = r.few;
        put = r.put;
        written = r.written;
        version = r.version;
        unbroken = r.unbroken;
        whole = r.whole;
        well = well;
        readable = r.readable;
        ahead = r.ahead;
        begun = begun;
        low = r.low;
      }

  -- Nothing was read, written or evaluated.
  pub gone_runs : {waiting : RootPath} {next : Option OpenNode}
      → waiting.root ≡ m.waiting.root
      → ContinuesAs c m.waiting.root (stack_of node m.waiting.nodes) m.values.items (stack_of next waiting.nodes) m.values.items
      → Runs c w (record m { waiting = waiting }) next
  gone_runs same goes =
      still_runs (rw same (goes r.transcript (w.meter - m.begun) r.todo r.invariant)) r.well r.begun

  -- A record was read, and the pass continues.
  pub read_more : {honest : Bool} {content : List ℕ} {back : BackState} {read : List Value} {values : Vec Value}
      {next : Option OpenNode} {p n : ℕ} {x : Item} (todo : Pending)
      → (h : HasFetched c x p n honest w.first.content m.back back m.values.items read)
      → (honest ≡ true → w.first.honest ≡ true) → LeavesContent honest w.first.content content → All IsWell values.items
      → RunInvariant c m.waiting.root (stack_of next m.waiting.nodes) values.items
      (record { read = r.transcript.read ++ h.body ∷ []; put = r.transcript.put }) (w.meter - m.begun) todo
      → AreRecords (source c) (r.transcript.read ++ h.body ∷ []) todo
      → Runs c (with_first_device honest content (w.second, w.meter)) (record m { back = back; values = values }) next
  read_more todo h before leaves well invariant ahead =
      let at = ap (λ g. g.at) h.progress in
      let records = ap (λ g. g.records) h.progress in
      let len = length-append r.transcript.read (h.body ∷ []) in
      let old = r.records in
      let few = h.few in
      record {
        transcript = record { read = r.transcript.read ++ h.body ∷ []; put = r.transcript.put };
        todo = todo;
        invariant = invariant;
        over = λ z. rw (leaves z) (h.over z);
        read = λ z. rw (leaves z, at)
            (reads_on version_two w.first.content r.transcript.read (h.body ∷ []) (length w.first.content) m.back.progress.at
            (before_frame m.back.progress.at h.body) (r.read (before z)) (h.found z, refl));
        records = omega arith;
        few = omega arith;
        put = r.put;
        written = r.written;
        version = ap (λ g. g.version) h.progress ∙ r.version;
        unbroken = ap (λ g. g.fault) h.progress ∙ r.unbroken;
        whole = r.whole;
        well = well;
        readable = λ z. rw (leaves z) (r.readable (before z));
        ahead = ahead;
        begun = r.begun;
        low = r.low;
      }

  -- A record was written, and the pass continues.
  pub put_on : {honest : Bool} {content : List ℕ} {out : writing.Progress} {values : Vec Value} {waiting : RootPath}
      {next : Option OpenNode} {kind : Kind} {number : ℕ} {put : List Value}
      → HasPut kind number put honest w.second.content content m.writer out → (honest ≡ true → w.second.honest ≡ true)
      → All IsWell values.items
      → RunInvariant c waiting.root (stack_of next waiting.nodes) values.items
      (record { read = r.transcript.read; put = r.transcript.put ++ body_of kind number put ∷ [] }) (w.meter - m.begun) r.todo
      → Runs c (with_second_device honest content (w.first, w.meter))
      (record m { writer = out; values = values; waiting = waiting }) next
  put_on {kind = kind} {number = number} {put = put} h before well invariant =
      let written = ap (λ w. w.written) h.counted in
      let len = length-append r.transcript.put (body_of kind number put ∷ []) in
      let old = r.written in
      record {
        transcript = record { read = r.transcript.read; put = r.transcript.put ++ body_of kind number put ∷ [] };
        todo = r.todo;
        invariant = invariant;
        over = r.over;
        read = r.read;
        records = r.records;
        few = r.few;
        put = put_more c r.transcript.put h before r.put;
        written = omega arith;
        version = r.version;
        unbroken = r.unbroken;
        whole = ap (λ w. w.is_broken) h.counted ∙ r.whole;
        well = well;
        readable = r.readable;
        ahead = r.ahead;
        begun = r.begun;
        low = r.low;
      }
