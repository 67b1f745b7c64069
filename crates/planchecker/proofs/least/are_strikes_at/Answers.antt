use Rattle.planchecker.proofs.Common.{passes_of}
use Rattle.passassign.proofs.making.NoEarlier.{later_from}
use Rattle.planchecker.proofs.Loops.{is_no, is_yes}
use Rattle.planchecker.proofs.Strikes.{exact, inexact}
use Rattle.planchecker.proofs.least.are_strikes_at.Goals as goal

pub returns-in-None : goal.returns-in-None
returns-in-None c =
    inexact _ _ _ _ (later_from (passes_of c.args.assignment.now) c.args.pass) _
    (is_no c.in-None.ensures.good)

pub returns-in-Some : goal.returns-in-Some
returns-in-Some c =
    exact _ _ _ _ (later_from (passes_of c.args.assignment.now) c.args.pass) _ _
    (is_yes c.in-Some.ensures.good) c.in-Some.ensures.marks
    (rw c.rows.ensures at c.are_later_struck.ensures)
