use Rattle.passrun.proofs.Common
use Common.{◌-◌, ◌<◌, arith, err_from_is_err_and, Ok, inr, frames_begin, none_added, not_begun, RunFault}
use Rattle.passrun.proofs.Damage.{other_pass, readable, decidable}
use Rattle.passrun.proofs.Refusing.{not_started, root_unfetched}
use Rattle.passrun.proofs.course.Ending.{begun_runs}
use Rattle.passrun.proofs.passing.ends.begin.Goals as goal

pub returns-clause-runs : goal.returns-clause-runs
returns-clause-runs g c =
    let start = c.in_ok-back.ensures in
    let begin = c.in_ok-writer.ensures in
    let root = c.in_ok-root.ensures in
    begun_runs c.requires.context.sound c.new-values.result
    c.new-values.ensures.items c.new.ensures c.start-2.ensures.value c.count.ensures root.fetched root.content
    (λ w. let z = root.persists.honest w in
    rw (start.content z)
    (readable _ (decidable c.requires.context.sound) _ _ (start.exact z) (cc)))
    (λ w. let z = root.persists.honest w in
    rw (start.content z) (start.started.over z))
    (λ w. let z = root.persists.honest w in cc (start.started.end z, start.content z))
    start.started.fresh start.started.version start.started.unbroken begin.header begin.fresh c.requires.meter

pub returns-in_err-back-clause-refused : goal.returns-in_err-back-clause-refused
returns-in_err-back-clause-refused g c =
    let p = err_from_is_err_and c.from_residual.result c.from_residual.ensures.1 in
    rw (p.1, p.2)
    (λ honest. not_started c.requires.context.sound _ (λ back. back.progress.pass) c.in_err-back.field-0.0
    (c.in_err-back.ensures.exact honest))

pub returns-in_err-root-clause-refused : goal.returns-in_err-root-clause-refused
returns-in_err-root-clause-refused g c =
    let p = err_from_is_err_and c.from_residual-in_err-root.result c.from_residual-in_err-root.ensures.1 in
    let start = c.in_ok-back.ensures in
    rw (p.1, p.2) (λ honest.
    let z = c.in_err-root.ensures.persists.honest honest in
    let same = start.content z in
    rw same at
    (root_unfetched c.requires.context.sound
    c.in_ok-back.back c.in_err-root.field-0.0 c.start-2.ensures.value
    (rw same
    (readable _ (decidable c.requires.context.sound) _ _ (start.exact z) (cc)))
    (cc (start.started.end z)) start.started.fresh
    (c.in_err-root.ensures.refused honest)))

pub returns-then-pass-file_pass-clause-refused : goal.returns-then-pass-file_pass-clause-refused
returns-then-pass-file_pass-clause-refused g c = λ honest.
    let small : c.args.context.now.setting.pass - 1 < 65536 = omega (arith, c.file_pass.ensures, c.file_pass.type_inv) in
    other_pass _ (decidable c.requires.context.sound) _ _ small (c.in_ok-back.ensures.exact honest)
    (λ same. c.if-pass-file_pass.true (cc))

pub returns-in_err-writer-clause-left : goal.returns-in_err-writer-clause-left
returns-in_err-writer-clause-left g c =
    let p = err_from_is_err_and c.from_residual-in_err-writer.result c.from_residual-in_err-writer.ensures.1 in
    rw p.1
    (λ h. not_begun _ _ _ c.in_err-writer.field-0.0 (λ failed. c.in_err-writer.ensures.device (cc) h)
    (λ resource. c.in_err-writer.ensures.memory (cc) h))

pub returns-in_err-root-clause-left : goal.returns-in_err-root-clause-left
returns-in_err-root-clause-left g c =
    let p = err_from_is_err_and c.from_residual-in_err-root.result c.from_residual-in_err-root.ensures.1 in
    rw p.1
    (λ h. inr (frames_begin RunFault _ _ _ (Ok tt) (c.in_ok-writer.ensures.header h) (none_added RunFault _ (Ok tt))))
