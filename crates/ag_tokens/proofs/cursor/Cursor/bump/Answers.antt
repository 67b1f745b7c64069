use Rattle.ag_tokens.proofs.States.{following_fits, next_is, ready, view}
use Rattle.ag_tokens.proofs.cursor.Cursor.bump.Goals as goal

pub invariant_of-self : goal.invariant_of-self
invariant_of-self c =
    ready _ (following_fits c.self.invariant c.in-Ok.is) c.skip_separators-self-inside.ensures
    c.skip_separators-self-inside.utf8 c.in-Some.ensures

pub invariant_of-self-in-None : goal.invariant_of-self-in-None
invariant_of-self-in-None c =
    ready _ (following_fits c.self.invariant c.in-Ok.is) c.skip_separators-self-inside.ensures
    c.skip_separators-self-inside.utf8 c.leading_token-self-inside.ensures

pub returns-in-Some : goal.returns-in-Some
returns-in-Some c = rw (← c.self.view_is) (next_is c.self.invariant c.in-Ok.is _ c.skip_separators-self-inside.ensures)

pub returns-in-None : goal.returns-in-None
returns-in-None c = rw (← c.self.view_is) (next_is c.self.invariant c.in-Ok.is _ c.skip_separators-self-inside.ensures)

pub returns-in_default : goal.returns-in_default
returns-in_default c = rw (← c.self.view_is, view c.self.invariant c.in_default.is)
