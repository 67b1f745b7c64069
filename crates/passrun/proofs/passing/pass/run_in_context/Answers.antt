use Rattle.passrun.proofs.Common
use Common.{arith, Err, Ok, inr, IfOk-weaker, err_from_is_err_and, added, frames_begin, RunFault}
use Rattle.std.proofs.lemmas.Result.{IfErr-weaker}
use Rattle.passrun.proofs.course.Metered.{meter_few, on_ok}
use Rattle.passrun.proofs.passing.pass.run_in_context.Goals as goal

pub returns-clause-meter : goal.returns-clause-meter
returns-clause-meter g c =
    let few = meter_few c.requires.context.sound c.in_ok-run.ensures.runs in
    on_ok _ c.finish.result (omega (arith, c.in_ok-run.ensures.begun, c.in_ok-machine.ensures.begun, few.0, few.1))

pub returns-in_err-run-clause-left : goal.returns-in_err-run-clause-left
returns-in_err-run-clause-left g c =
    let begun = c.in_ok-machine.ensures in
    let p = err_from_is_err_and c.from_residual-in_err-run.result c.from_residual-in_err-run.ensures.1 in
    rw p.1 (λ h. inr (frames_begin RunFault _ _ _ (Err p.0) (begun.header (c.in_err-run.ensures.devices.second.honest h))
    (c.in_err-run.ensures.left h)))

pub returns-clause-begins : goal.returns-clause-begins
returns-clause-begins g c =
    let ran = c.in_ok-run.ensures in
    IfOk-weaker c.finish.result _ _ (λ p put h.
    let is = c.finish.ensures.devices.second.honest h in
    frames_begin RunFault _ _ _ (Ok tt) (c.in_ok-machine.ensures.header (ran.devices.second.honest is))
    (added RunFault _ _ _ (Ok tt) (ran.added is) (put h)))
    c.finish.ensures.added

pub returns-clause-left : goal.returns-clause-left
returns-clause-left g c =
    let ran = c.in_ok-run.ensures in
    IfErr-weaker c.finish.result _ _ (λ f left h.
    let is = c.finish.ensures.devices.second.honest h in
    inr (frames_begin RunFault _ _ _ (Err f) (c.in_ok-machine.ensures.header (ran.devices.second.honest is))
    (added _ _ _ _ (Err f) (ran.added is) (left h))))
    c.finish.ensures.left
