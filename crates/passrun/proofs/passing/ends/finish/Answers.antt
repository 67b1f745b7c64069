use Rattle.passrun.proofs.Common
use Common.{option_map, ◌≡◌, List, Option, Ok, None, Bor, ℕ, ap, length, ◌∙◌, arith, err_from_is_err_and, next_before}
use Common.{version_two, Err, added, none_added}
use Rattle.passrun.proofs.Refusing.{end_come, end_refused, left_over, some_lent}
use Rattle.passrun.proofs.course.Ending.{as_many, none_lent, passed, reader_kept, ready_of}
use Rattle.pass_rows.specs.declared.run_fault.RunFault.TheVariants as run_fault
use Rattle.passrun.proofs.passing.ends.finish.Goals as goal

-- The body that is lent, if there is one.
abbrev body_of : Option (Bor (List ℕ)) → Option (List ℕ)
body_of = option_map (λ (body : Bor (List ℕ)). body.now)

pub put_record-requires-clause-few : goal.put_record-requires-clause-few
put_record-requires-clause-few g c =
    let r = ready_of c.requires.context.sound c.requires.runs.1 in
    omega (arith, r.0, ap length c.as_slice-values.ensures.value)

pub put_record-requires-clause-room : goal.put_record-requires-clause-room
put_record-requires-clause-room g c =
    let r = ready_of c.requires.context.sound c.requires.runs.1 in
    r.1

pub returns-clause-passed : goal.returns-clause-passed
returns-clause-passed g c = λ meter r is to_is.
    let end : next_before version_two (g.D.Device.content c.args.from.now) c.args.machine.now.back.progress.at ≡ Ok None =
    (rw r.version at (c.in_ok-back.ensures.exact r.unbroken is))
    ∙ ap Ok (none_lent c.in_ok-back.field-0 (cc)) in
    passed c.requires.context.sound r (c.in_ok-back.ensures.persists.honest is) c.in_ok-put_record.ensures.persists.honest to_is
    c.as_slice-values.ensures.value (rw c.root.ensures at c.in_ok-put_record.ensures.put) end
    (cc (reader_kept c.back.follows.holds-at-none c.in_ok-back.was (cc)))

pub returns-clause-counts : goal.returns-clause-counts
returns-clause-counts g c =
    let n = as_many c.requires.context.sound c.requires.runs.1 in
    let a = n.0 in
    let p = c.back.follows.lender-at-none.progress.records in
    let same : p ≡ c.args.machine.now.back.progress.records =
    cc (reader_kept c.back.follows.holds-at-none c.in_ok-back.was (cc)) in
    let w = ap (λ w. w.written) c.in_ok-put_record.ensures.put.counted in
    (cc, omega arith)

pub returns-clause-few : goal.returns-clause-few
returns-clause-few g c =
    let n = as_many c.requires.context.sound c.requires.runs.1 in
    omega (arith, n.1, ap (λ p. p.records) (reader_kept c.back.follows.holds-at-none c.in_ok-back.was (cc)), c.records.ensures)

pub returns-in_err-back-clause-refused : goal.returns-in_err-back-clause-refused
returns-in_err-back-clause-refused g c =
    let p = err_from_is_err_and c.from_residual-in_err-back.result c.from_residual-in_err-back.ensures.1 in
    rw (p.1, p.2) (λ is.
    let come = end_come c.requires.context.sound c.requires.runs.1 (c.in_err-back.ensures.persists.honest is) in
    end_refused c.requires.context.sound _ _ body_of c.in_err-back.field-0.0 come.0 come.1
    (rw c.requires.runs.1.version at (c.in_err-back.ensures.exact c.requires.runs.1.unbroken is)))

pub returns-then-is_some-clause-refused : goal.returns-then-is_some-clause-refused
returns-then-is_some-clause-refused g c = λ is.
    let some = some_lent c.in_ok-back.field-0 (cc) in
    let come = end_come c.requires.context.sound c.requires.runs.1 (c.in_ok-back.ensures.persists.honest is) in
    rw c.end-end.ensures
    (left_over c.requires.context.sound come.0 come.1
    ((rw c.requires.runs.1.version at (c.in_ok-back.ensures.exact c.requires.runs.1.unbroken is))
    ∙ ap Ok some.1))

pub returns-in_err-back-clause-left : goal.returns-in_err-back-clause-left
returns-in_err-back-clause-left g c =
    let p = err_from_is_err_and c.from_residual-in_err-back.result c.from_residual-in_err-back.ensures.1 in
    rw p.1 (λ h. added _ _ _ _ (Err p.0) (c.in_ok-put_record.ensures.added h) (none_added _ _ (Err p.0)))

pub returns-then-is_some-clause-left : goal.returns-then-is_some-clause-left
returns-then-is_some-clause-left g c = λ h.
    let fault = run_fault.Damaged c.end-end.result in
    added _ _ _ _ (Err fault) (c.in_ok-put_record.ensures.added h) (none_added _ _ (Err fault))
