-- The remaining goals of `is_readable`.
use Rattle.normalform.proofs.found.Tested.{readable_decides}
use Rattle.normalform.proofs.faults.readable.is_readable.Goals as goal

pub returns : goal.returns
returns c = rw (c.are_readable.ensures, c.as_slice.ensures) (readable_decides c.args.raw.now.productions)
