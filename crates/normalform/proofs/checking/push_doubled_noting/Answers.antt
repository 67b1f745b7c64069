-- The length says whether there was a fault.
use Rattle.normalform.proofs.Common.{doubled_checks}
use Rattle.normalform.proofs.Listing.{says}
use Rattle.normalform.proofs.checking.push_doubled_noting.Goals as goal

pub returns-clause-distinct : goal.returns-clause-distinct
returns-clause-distinct c =
    rw (c.len-before.ensures, c.len.ensures) (says _ _ (doubled_checks c.args.symbols.now) c.in_ok-push_doubled.ensures)
