-- The names of synthesized attributes, then those of inherited ones.
use Rattle.normalform.proofs.Common.{[], fold, doubled_names, new_check, with_name}
use Rattle.normalform.proofs.Listing.{along_append, two_parts}
use Rattle.normalform.proofs.faults.naming.push_doubled_attributes.Goals as goal

pub returns : goal.returns
returns c =
    let s = c.args.symbol.now in
    rw (along_append new_check with_name [] s.syn s.inh)
    (two_parts (doubled_names [] s.syn) (doubled_names (fold with_name [] s.syn) s.inh) _ _ _
    (rw (c.as_slice.ensures, c.new-seen.ensures) at c.in_ok-push_doubled_names.ensures.faults)
    (rw (c.as_slice-2.ensures, c.in_ok-push_doubled_names.ensures.seen, c.as_slice.ensures, c.new-seen.ensures)
    at c.in_ok-push_doubled_names-2.ensures.faults))
