use Rattle.ag_tokens.proofs.States.{view}
use Rattle.ag_tokens.proofs.cursor.Cursor.peek.Goals as goal

pub returns-in-Ok : goal.returns-in-Ok
returns-in-Ok c = rw (← c.self.view_is, view c.self.invariant c.in-Ok.is)

pub returns-in-Err : goal.returns-in-Err
returns-in-Err c = rw (← c.self.view_is, view c.self.invariant c.in-Err.is)
