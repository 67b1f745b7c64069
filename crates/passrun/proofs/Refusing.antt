-- Why the faults R1, P2 and P3 of a pass are true of the content that it reads.
use Rattle.passrun.proofs.Common
use Common.{option_map, IsTrue, ℕ, suc, ◌≡◌, ◌+◌, Bool, true, List, [], ◌∷◌, ◌++◌, Option, Some, None, Ok, Err, is_some, Bor}
use Common.{length, drop, reverse, refl, sym, arith, length-reverse, Value, FrameFault, next_before, pass_in, WhenHonest, ReadsAs}
use Common.{version_two, Pending, values_up_to, damage_is_there, never_no_file, BackState, Setting, IsSound, PlaceRow, Machine}
use Common.{OpenNode, RunFault, IsRunFault, ArrivesAt, IsDamaged, IsReadable, source, Runs, World, run_fault_of_frame, HasFetched}
use Common.{IsUnfetched, copied_passes, Agrees, read_values}
use Common.item
use Common.frame_fault
use Common.instr
use Rattle.passrun.proofs.course.Ahead.{disagreed, fetched_row, unfetched}
use Rattle.passrun.proofs.Damage.{broken, decidable, unstarted}
use Rattle.passrun.proofs.steps.Steps.{IsNext, get_first}
use Rattle.passrun.proofs.steps.MachineSteps.{Answers, begins_so, got_place}

-- If a returned option is `Some`, it has a body.
pub some_lent : (found : Option (Bor (List ℕ))) → is_some found ≡ true
    → (body : List ℕ) × (option_map (λ (b : Bor (List ℕ)). b.now) found ≡ Some body)
some_lent (Some body) e = (body.now, refl)
some_lent None e = absurd cc

-- When the machine m, at the node x, fetches the record of the child at place j, that child is the first to be read from the
-- content. `row` describes the child's place, and `values` are those of the child's copies in x's row.
record FirstCome (c : Setting) (content : List ℕ) (m : Machine) (x : OpenNode) (j : ℕ) (row : PlaceRow) : Type 0 where
  values : ℕ → Value
  left : Pending
  readable : IsReadable (source c) content
  here : ArrivesAt (source c) content m.back.progress.at
      ((suc (length m.waiting.nodes + 1), (row.item, Some (values_up_to c.read (copied_passes c row.item) values))) ∷ left)
  count : m.back.progress.records ≡ length here.bodies
  found : (more : List Value) → (rest : List Value)
      × (drop (x.base + row.start) (m.values.items ++ more) ≡ values_up_to c.write (copied_passes c row.item) values ++ rest)

module _ {c : Setting} (sound : IsSound c) where
  -- At a `Get`, the child is the first to be read (`FirstCome`).
  first_come : {w : World} {m : Machine} {x : OpenNode} {j : ℕ} {row : PlaceRow} → Runs c w m (Some x)
      → IsNext c x (instr.Get j) → Answers c x j (Some row) → w.first.honest ≡ true → FirstCome c w.first.content m x j row
  first_come {m} {x} {row} r at is honest =
      let xs = reverse m.waiting.nodes in
      let i = got_place r at is in
      let first = get_first sound m.waiting.root xs (record { next = at; there = i.there; occurs = i.occurs }) r.invariant in
      let l = length-reverse m.waiting.nodes in
      let level : suc (suc (length xs)) ≡ suc (length m.waiting.nodes + 1) = omega arith in
      record {
        values = first.0;
        left = first.1;
        readable = r.readable honest;
        here = record {
          bodies = r.transcript.read;
          read = r.read honest;
          records =
              rw (first.2, level) at r.ahead;
          few = r.few;
        };
        count = r.records;
        found = λ more. let z = first.3 more in (z.0, cc);
      }

  pub get_refused : {w : World} {m : Machine} {x : OpenNode} {j n : ℕ} {row : PlaceRow} (f : RunFault)
      → Runs c w m (Some x) → IsNext c x (instr.Get j) → Answers c x j (Some row) → n ≡ length m.waiting.nodes + 1
      → w.first.honest ≡ true → IsUnfetched c row.item n w.first.content m.back f → IsRunFault c w.first.content f
  get_refused {m} {n} {row} f r at is count honest h =
      let z = first_come r at is honest in
      unfetched sound (Some (values_up_to c.read (copied_passes c row.item) z.values))
      (length m.waiting.nodes + 1) m.back z.left f z.readable z.here z.count
      (rw count at h)

  -- If the record of a child does not agree with the child's copy, the content is damaged.
  pub get_differs : {w : World} {honest : Bool} {m : Machine} {x : OpenNode} {j p n : ℕ} {row : PlaceRow}
      {back : BackState} {read ours theirs : List Value} {from start : ℕ} (answer : Bool) → Runs c w m (Some x)
      → IsNext c x (instr.Get j) → Answers c x j (Some row)
      → n ≡ length m.waiting.nodes + 1
      → HasFetched c row.item p n honest w.first.content m.back back m.values.items read → Agrees c row.item ours theirs answer
      → (IsTrue answer → ⊥) → ours ≡ drop from read → theirs ≡ drop start read → from ≡ x.base + row.start
      → start ≡ length m.values.items
      → (honest ≡ true → w.first.honest ≡ true) → WhenHonest honest (IsDamaged (source c) w.first.content m.back.progress.at)
  get_differs {m} {x} {p} {n} {row} {read} {start} answer r at is level h agrees not_true ours_are
      theirs_are from_is start_is before honest =
      let z = first_come r at is (before honest) in
      let back_row = begins_so c row.item p h.body m.values.items read h.taken in
      let more = fetched_row h in
      let found = z.found more.0 in
      let deep = h.deep in
      let few = h.few in
      let count = z.count in
      let other =
      agrees z.values (read_values c row.item p h.body m.values.items read h.taken) found.0 back_row.0 (cc (more.1, found.1))
      (cc) in
      disagreed sound p m.values.items read
      h.taken z.values (λ same. not_true (other.1 same)) z.readable z.here (omega arith) (omega arith) (h.found honest)

  -- If reading the header fails, the fault is true of the content: it does not begin as a tree file.
  pub not_started : (content : List ℕ) (view : BackState → ℕ) (f : FrameFault)
      → ReadsAs view (Err f) (pass_in version_two content) → IsRunFault c content (run_fault_of_frame f)
  not_started content view frame_fault.NotATreeFile exact =
      (unstarted (source c) (decidable sound) content frame_fault.NotATreeFile exact).1
  not_started content view (frame_fault.Damaged at) exact =
      absurd (let z = (unstarted (source c) (decidable sound) content (frame_fault.Damaged at) exact).0 in cc)
  not_started content view frame_fault.Device exact = tt
  not_started content view frame_fault.NoMemory exact = tt

  pub root_unfetched : {start : ℕ} {content : List ℕ} (state : BackState) (f : RunFault) → start ≡ c.grammar.start
      → IsReadable (source c) content → state.progress.at ≡ length content → state.progress.records ≡ 0
      → IsUnfetched c (item.Symbol start) 0 content state f → IsRunFault c content f
  root_unfetched {start} {content} state f is readable end fresh h =
      let here : ArrivesAt (source c) content state.progress.at ((1, (item.Symbol c.grammar.start, None)) ∷ []) =
      record { bodies = []; read = sym end; records = refl; few = omega arith } in
      unfetched sound None 0 state [] f readable here fresh (rw is at h)

  -- If no child is to be read and a frame is left, the content is damaged.
  pub left_over : {content : List ℕ} {at : ℕ} {body : List ℕ} → IsReadable (source c) content → ArrivesAt (source c) content at []
      → next_before version_two content at ≡ Ok (Some body) → IsDamaged (source c) content at
  left_over {content} {at} readable here found =
      broken (source c) (decidable sound) content at readable
      ([], here, tt, rw found tt)

  pub end_refused : (content : List ℕ) (at : ℕ) (view : Option (Bor (List ℕ)) → Option (List ℕ)) (f : FrameFault)
      → IsReadable (source c) content → ArrivesAt (source c) content at []
      → ReadsAs view (Err f) (next_before version_two content at) → IsRunFault c content (run_fault_of_frame f)
  end_refused content at view frame_fault.NotATreeFile readable here exact = absurd (never_no_file version_two content at exact)
  end_refused content at view (frame_fault.Damaged b) readable here exact =
      rw (damage_is_there version_two content at b exact)
      (broken (source c) (decidable sound) content at readable ([], here, tt, rw exact tt))
  end_refused content at view frame_fault.Device readable here exact = tt
  end_refused content at view frame_fault.NoMemory readable here exact = tt

  -- When the root is done, no child is to be read.
  pub end_come : {w : World} {m : Machine} → Runs c w m None → w.first.honest ≡ true
      → IsReadable (source c) w.first.content × ArrivesAt (source c) w.first.content m.back.progress.at []
  end_come r honest = (
    r.readable honest,
    record {
      bodies = r.transcript.read;
      read = r.read honest;
      records = rw r.invariant.nothing at r.ahead;
      few = r.few;
    },
  )
