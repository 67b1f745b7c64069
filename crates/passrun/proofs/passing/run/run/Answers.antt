use Rattle.passrun.proofs.Common.{RunFault, Err, Ok, ◌∙◌, arith, err_from_is_err_and, added}
use Rattle.passrun.proofs.course.Stepping.{persists_on}
use Rattle.passrun.proofs.passing.run.run.Goals as goal

pub returns-in_err-next-clause-left : goal.returns-in_err-next-clause-left
returns-in_err-next-clause-left g c =
    let p = err_from_is_err_and c.from_residual.result c.from_residual.ensures.1 in
    let old = c.loop-next.invariant in
    rw p.1
    (λ h. added _ _ _ _ (Err p.0) (old.added (c.in_err-next.ensures.devices.second.honest h)) (c.in_err-next.ensures.left h))

pub loop-next-preserved : goal.loop-next-preserved
loop-next-preserved g c =
    let old = c.loop-next.invariant in
    let next = c.in_ok-next.ensures in
    let before = old.meter in
    let rises = next.rises in
    record {
      runs = next.runs;
      added =
          λ h. added RunFault _ _ _ (Ok tt) (old.added (next.devices.second.honest h)) (next.added h);
      meter = omega arith;
      begun = cc;
      content = λ h. next.content h ∙ old.content (next.devices.first.honest h);
      from_persists = persists_on old.from_persists next.devices.first;
      to_persists = persists_on old.to_persists next.devices.second;
    }
