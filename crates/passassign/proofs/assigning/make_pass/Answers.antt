use Rattle.passassign.proofs.Common.{refl}
use Rattle.passassign.proofs.making.PassMade.{next_made}
use Rattle.passassign.proofs.assigning.make_pass.Goals as goal

pub returns-clause-made : goal.returns-clause-made
returns-clause-made c = λ g p.
    next_made (λ i. rw c.as_slice-2.ensures.value at (c.assign_passes.ensures.after i)) c.assign_passes.ensures.len refl
    c.turned-progress.ensures (rw c.as_slice.ensures.value at c.in_ok-struck.ensures) p
