-- The beginning and the end of a pass.
use Rattle.passrun.proofs.Common
use Common.{Vec, option_map, ℕ, ◌≡◌, ◌+◌, ◌-◌, ◌^◌, ◌<◌, ◌≤◌, Bool, true, false, List, [], ◌∷◌, ◌++◌, Option, Some, None, Result}
use Common.{Ok, length, is_some, Bor, refl, ap, ◌∙◌, sym, subst, arith, append-nil, Value, IsWell, stored_items}
use Common.{direction_of, other, following, children_of, pending_of_child, max_nodes, FrameFault, next_before, LeavesContent}
use Common.{WhenHonest, Node, before_others, body_of, header, version_two, none_at_header, HasRead, BackState, IsOver, lent_body}
use Common.{Between, Setting, IsSound, Machine, IsReadable, source, Runs, first_at, copies, stored, HasFetched}
use Common.{IsPassed, RunInvariant, Transcript, after_reading, Entry, HasPut, RootPath, World, between, first_row, All-nil}
use Common.item
use Common.writing
use Rattle.backreader.proofs.EndingAt.{all_bytes}
use Rattle.passrun.proofs.course.Ahead.{is_record, of_node_is}
use Rattle.passrun.proofs.course.Counted.{ready_counted}
use Rattle.passrun.proofs.course.Finish.{finished}
use Rattle.passrun.proofs.steps.Running.{put_more, row_well}
use Rattle.passrun.proofs.steps.Steps.{opened}

abbrev empty : Transcript
empty = record { read = []; put = [] }

-- If a returned option is not `Some`, it has no body.
pub none_lent : (found : Option (Bor (List ℕ))) → is_some found ≡ false → option_map (λ (b : Bor (List ℕ)). b.now) found ≡ None
none_lent (Some body) e = absurd cc
none_lent None e = refl

-- If the reader returned no body, its progress did not change.
pub reader_kept : {honest : Bool} {content : List ℕ} {old now : BackState} {answer : Result (Option (Bor (List ℕ))) FrameFault}
    {found : Option (Bor (List ℕ))} → HasRead honest content old (lent_body (λ (b : Bor (List ℕ)). b.now) answer) now
    → answer ≡ Ok found → is_some found ≡ false → now.progress ≡ old.progress
reader_kept {old} {now} {found} h was none = cc (none_lent found none)

module _ {c : Setting} (sound : IsSound c) where
  pub begun_runs : {p meter began start : ℕ} {honest to_honest : Bool} {content content' to : List ℕ}
      {state back : BackState} {out : writing.Progress} (old : Vec Value) {values : Vec Value} {waiting : RootPath}
      → old.items ≡ [] → waiting ≡ record { root = p; nodes = [] } → start ≡ c.grammar.start → began ≡ meter
      → HasFetched c (item.Symbol start) p 0 honest content state back old.items values.items
      → LeavesContent honest content content'
      → WhenHonest honest (IsReadable (source c) content) → WhenHonest honest (IsOver content state)
      → WhenHonest honest (state.progress.at ≡ length content) → state.progress.records ≡ 0
      → state.progress.version ≡ version_two → state.progress.fault ≡ None
      → WhenHonest to_honest (to ≡ header version_two c.write) → out ≡ record { written = 0; is_broken = false } → meter ≤ 2 ^ 63
      → Runs c (between honest content' to_honest to meter)
      (record { back = back; writer = out; values = values; waiting = waiting; begun = began }) (Some (first_at waiting.root 0))
  begun_runs {p} {meter} {began} {honest} {to_honest} {content} {content'} {to} {state} {back} {out} old {values}
      is_empty path is_start is_meter h' leaves readable over end fresh version unbroken head begun low =
      let h = subst (λ s. HasFetched c (item.Symbol s) p 0 honest content state back old.items values.items) is_start h' in
      let t = h.taken in
      let f = t.values in
      let start = c.grammar.start in
      let q = t.production in
      let e = first_row f t.table in
      let cs = copies c c.read (stored_items q.items) t.table in
      let row : values.items ≡ stored c q f e = cc in
      let todo = following c q e 0 2 [] in
      let entry : Entry =
      record { symbol = start; own = f; under = []; old = empty; before = 0; others = [] } in
      let node = opened sound p entry e 1 t.there t.left (omega arith) refl in
      let passing : RunInvariant c p (first_at p 0 ∷ []) (stored c q f e) (after_reading c p f cs empty) 0 todo =
      (entry, (refl, refl, refl, refl, refl, refl), Between, node) in
      let tape : after_reading c p f cs empty ≡ record { read = [] ++ h.body ∷ []; put = [] } = cc in
      let passing' : RunInvariant c p (first_at p 0 ∷ []) values.items (record { read = [] ++ h.body ∷ []; put = [] }) 0 todo =
      subst (λ z. RunInvariant c p (first_at p 0 ∷ []) values.items z 0 todo) tape
      (subst (λ vs. RunInvariant c p (first_at p 0 ∷ []) vs (after_reading c p f cs empty) 0 todo) (sym row) passing) in
      let children = children_of c q e in
      let come : todo ≡ before_others (other (direction_of c.read)) 2 children [] =
      ap (λ o. pending_of_child c o e 2 []) (sym t.there) ∙ of_node_is sound p q e 2 [] t.there in
      let none : meter - began ≡ 0 = omega arith in
      let at = ap (λ g. g.at) h.progress in
      let records = ap (λ g. g.records) h.progress in
      record {
        transcript = record { read = [] ++ h.body ∷ []; put = [] };
        todo = todo;
        invariant = rw (path, none) passing';
        over = λ z. rw (leaves z) (h.over z);
        read = λ z. rw (leaves z) (ap (next_before version_two content) (sym (end z)) ∙ h.found z, cc (end z));
        records = omega arith;
        few = omega arith;
        put = λ z. cc (head z, append-nil (header version_two c.write));
        written = cc;
        version = ap (λ g. g.version) h.progress ∙ version;
        unbroken = ap (λ g. g.fault) h.progress ∙ unbroken;
        whole = cc;
        well = row_well t (rw is_empty (All-nil IsWell));
        readable = λ z. rw (leaves z) (readable z);
        ahead = (children, omega arith, is_record c (item.Symbol start) p h.body old.items values.items t None tt, cc);
        begun = omega arith;
        low = omega arith;
      }

  pub ready_of : {w : World} {m : Machine} → Runs c w m None
      → (length m.values.items ≤ version_two.max_values) × (m.writer.written < 2 ^ 64 - 1)
  ready_of r =
      let k = ready_counted sound r.invariant in
      let few = r.few in
      let w = r.written in
      (r.invariant.few, omega arith)

  -- When the root is done, one more record was read than written: the root's is still to be written.
  pub as_many : {w : World} {m : Machine} → Runs c w m None
      → (m.writer.written + 1 ≡ m.back.progress.records) × (m.back.progress.records ≤ max_nodes)
  as_many r =
      let k = ready_counted sound r.invariant in
      let few = r.few in
      let w = r.written in
      let n = r.records in
      (omega arith, omega arith)

  pub passed : {w : World} {to_honest : Bool} {to : List ℕ} {m : Machine} {out : writing.Progress} {values : List Value}
      {count : ℕ} → Runs c w m None → w.first.honest ≡ true → (to_honest ≡ true → w.second.honest ≡ true) → to_honest ≡ true
      → values ≡ m.values.items → HasPut Node m.waiting.root values to_honest w.second.content to m.writer out
      → next_before version_two w.first.content m.back.progress.at ≡ Ok None → count ≡ m.back.progress.records
      → IsPassed c w.first.content to count (w.meter - m.begun)
  passed {w} {to = to} {m} {count = count} r is before to_is vs put end counted =
      let content = w.first.content in
      let bytes = put_more c r.transcript.put (rw vs at put) before r.put to_is in
      let file = r.readable is in
      let bytes' = all_bytes content m.back (r.over is) (none_at_header version_two content m.back.progress.at end) in
      finished c sound m.waiting.root content to m.values.items r.transcript m.back.progress.at count (w.meter - m.begun)
      (body_of Node m.waiting.root m.values.items) r.todo r.invariant (cc) bytes' file.begins file.number (r.read is) end bytes
      (cc) r.few
