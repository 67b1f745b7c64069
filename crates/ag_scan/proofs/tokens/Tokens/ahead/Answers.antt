use Rattle.std.proofs.Common.{sym}
use Rattle.ag_scan.proofs.Supplying.{is_next, none_next}
use Rattle.ag_scan.proofs.tokens.Tokens.ahead.Goals as goal

pub returns-in-Some : goal.returns-in-Some
returns-in-Some c =
    let at = rw c.in-Some.is at c.self.invariant in
    rw (← c.self.view_is) (sym (is_next at))

pub returns-in-None : goal.returns-in-None
returns-in-None c =
    let at = rw c.in-None.is at c.self.invariant in
    rw (← c.self.view_is) (sym (none_next at).0)
