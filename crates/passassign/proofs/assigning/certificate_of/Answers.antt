use Rattle.passassign.proofs.assigning.certificate_of.Goals as goal

pub returns-in-RightToLeft-clause-all : goal.returns-in-RightToLeft-clause-all
returns-in-RightToLeft-clause-all c =
    rw (c.from_vec-set.ensures, ← c.as_slice.ensures.value) c.in_ok-open_attributes.ensures.all

pub returns-in-LeftToRight-clause-all : goal.returns-in-LeftToRight-clause-all
returns-in-LeftToRight-clause-all c =
    rw (c.from_vec-set.ensures, ← c.as_slice.ensures.value) c.in_ok-open_attributes.ensures.all
