use Rattle.aggen.proofs.Common.{Ok, Err, inr, ap, DeviceFault}
use Rattle.treefile.proofs.framing.Beginning.{frames_begin, not_begun, one_added, one_refused}
use Rattle.aggen.proofs.Reading.{one_body}
use Rattle.aggen.proofs.values.value_file.write_file.Goals as goal

-- after a failure of `begin` the device has what it had, or a prefix of the header
pub returns-in_err-writer-clause-left : goal.returns-in_err-writer-clause-left
returns-in_err-writer-clause-left g c = λ h.
    not_begun 0 _ _ c.in_err-writer.field-0.0 (λ failed. c.in_err-writer.ensures.device (ap Err failed) h)
    (λ resource. c.in_err-writer.ensures.memory (ap Err resource) h)

-- after a failure of `put` it has the header and a prefix of the frame
pub returns-in_err-put-clause-left : goal.returns-in_err-put-clause-left
returns-in_err-put-clause-left g c = λ h.
    let f = c.in_err-put.field-0.0 in
    inr (frames_begin DeviceFault 0 _ _ (Err f) (c.in_ok-writer.ensures.header (c.in_err-put.ensures.persists.honest h))
    (one_refused DeviceFault _ _ _ f f (one_body c.requires) (λ failed. c.in_err-put.ensures.device (ap Err failed) h)
    (λ resource. c.in_err-put.ensures.memory (ap Err resource) h)))

-- after success it has the header and the frame
pub returns-clause-left : goal.returns-clause-left
returns-clause-left g c = λ h.
    inr (frames_begin DeviceFault 0 _ _ (Ok tt) (c.in_ok-writer.ensures.header (c.in_ok-put.ensures.persists.honest h))
    (one_added DeviceFault _ _ _ (one_body c.requires) (c.in_ok-put.ensures.frame h)))
