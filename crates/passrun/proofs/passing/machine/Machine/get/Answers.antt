use Rattle.passrun.proofs.Common
use Common.{◌≡◌, ◌+◌, ap, refl, ◌∙◌, sym, take, length, length-append, arith, take_at, err_from_is_err_and, setting}
use Rattle.passrun.proofs.Refusing.{get_differs, get_refused}
use Rattle.passrun.proofs.course.Ahead.{fetched_row}
use Rattle.passrun.proofs.steps.MachineSteps.{got_place, got_leads, has_agreed, item_within}
use Rattle.passrun.proofs.course.Working.{got_less}
use Rattle.passrun.proofs.passing.machine.Machine.get.Goals as goal

pub place-row-requires-clause-there : goal.place-row-requires-clause-there
place-row-requires-clause-there g c = item_within c.row-layout.result.now c.requires.runs.1 c.requires.next c.row-layout.ensures

pub returns-in_err-number-clause-refused : goal.returns-in_err-number-clause-refused
returns-in_err-number-clause-refused g c =
    let p = err_from_is_err_and c.from_residual.result c.from_residual.ensures.1 in
    let count : c.len-open_count.result + 1 ≡ length c.args.self.now.waiting.nodes + 1 =
    omega (arith, c.len-open_count.ensures.number) in
    rw (p.1, p.2)
    (λ honest. get_refused c.requires.context.sound c.in_err-number.field-0.0 c.requires.runs.1 c.requires.next
    c.place-row.ensures count (c.in_err-number.ensures.persists.honest honest) (c.in_err-number.ensures.refused honest))

pub matches_copy-requires-clause-known : goal.matches_copy-requires-clause-known
matches_copy-requires-clause-known g c =
    (got_place c.requires.runs.1 c.requires.next c.place-row.ensures).known

pub matches_copy-requires-clause-copied : goal.matches_copy-requires-clause-copied
matches_copy-requires-clause-copied g c =
    let m = c.args.self.now in
    let i = got_place c.requires.runs.1 c.requires.next c.place-row.ensures in
    let more = fetched_row c.in_ok-number.ensures.fetched in
    omega (arith, ap length more.1 ∙ length-append m.values.items more.0, ap length c.as_slice.ensures.value, i.start, i.within)

pub matches_copy-requires-clause-start : goal.matches_copy-requires-clause-start
matches_copy-requires-clause-start g c =
    let m = c.args.self.now in
    let more = fetched_row c.in_ok-number.ensures.fetched in
    omega (arith, ap length more.1 ∙ length-append m.values.items more.0, ap length c.as_slice.ensures.value, m.values.ok.0)

pub returns-then-not-matches_copy-clause-refused : goal.returns-then-not-matches_copy-clause-refused
returns-then-not-matches_copy-clause-refused g c = λ honest.
    let m = c.args.self.now in
    let start : c.len-start.result ≡ length m.values.items = omega (arith, m.values.ok.0) in
    rw c.end-end.ensures
    (get_differs c.requires.context.sound c.matches_copy.result c.requires.runs.1 c.requires.next c.place-row.ensures
    (omega (arith, c.len-open_count.ensures.number)) c.in_ok-number.ensures.fetched c.matches_copy.ensures
    (λ yes. let z = sym c.if-not-matches_copy.true ∙ yes in cc) (cc)
    (cc) refl start c.in_ok-number.ensures.persists.honest honest)

pub returns-clause-runs : goal.returns-clause-runs
returns-clause-runs g c =
    let context = setting c.args.context.now in
    let m = c.args.self.now in
    let row = c.place-row.result in
    let read = c.fetch.new.values.items in
    let h = c.in_ok-number.ensures.fetched in
    let copied = c.args.node.base + row.start in
    let start : c.len-start.result ≡ length m.values.items = omega (arith, m.values.ok.0) in
    let more = fetched_row h in
    let old : take c.len-start.result read ≡ m.values.items =
    cc (take_at m.values.items more.0 c.len-start.result (sym start)) in
    got_leads c.requires.context.sound
    c.requires.next c.place-row.ensures h (omega (arith, c.len-open_count.ensures.number))
    (λ q there begins. has_agreed context q c.args.node c.args.place row.item c.in_ok-number.number h.body m.values.items read
    {from = copied} {start = c.len-start.result} c.matches_copy.result h.taken c.matches_copy.ensures
    c.if-not-matches_copy.false (cc) (cc) (cc) start)
    (cc) c.in_ok-number.ensures.persists.honest c.in_ok-number.ensures.content c.after_step.ensures

pub returns-clause-less : goal.returns-clause-less
returns-clause-less g c =
    got_less c.requires.context.sound c.args.self.now c.truncate_row.new.values c.args.node
    c.requires.next c.in_ok-number.ensures.fetched c.after_step.ensures
