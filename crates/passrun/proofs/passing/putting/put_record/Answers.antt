use Rattle.passrun.proofs.Common.{RunFault, err_from_is_err_and, version_two, one_added, one_refused, is_body}
use Rattle.passrun.proofs.passing.putting.put_record.Goals as goal

pub returns-in_err-put_carried-clause-left : goal.returns-in_err-put_carried-clause-left
returns-in_err-put_carried-clause-left g c =
    let p = err_from_is_err_and c.from_residual.result c.from_residual.ensures.1 in
    let sound = is_body version_two c.args.kind c.args.number c.args.values.now c.requires.few c.requires.well in
    rw p.1
    (λ h. one_refused _ _ _ _ c.in_err-put_carried.field-0.0 p.0 sound
    (λ failed. c.in_err-put_carried.ensures.device (cc) h)
    (λ resource. c.in_err-put_carried.ensures.memory (cc) h))

pub returns-clause-added : goal.returns-clause-added
returns-clause-added g c = λ h.
    let sound = is_body version_two c.args.kind c.args.number c.args.values.now c.requires.few c.requires.well in
    one_added RunFault _ _ _ sound (c.in_ok-put_carried.ensures.frame h)
