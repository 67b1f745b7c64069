use Rattle.ag_expr.proofs.language.States.{passed_input, passed_keeps, some_token}
use Rattle.ag_expr.proofs.reader.Reader.bump.Goals as goal

pub returns-clause-tokens : goal.returns-clause-tokens
returns-clause-tokens c =
    let one = some_token _ (rw (← c.self.view_is) at c.requires) in
    rw (c.bump.ensures, ← c.self.view_is) (passed_input _ one.0 one.1)

pub returns-clause-keeps : goal.returns-clause-keeps
returns-clause-keeps c other =
    let one = some_token _ (rw (← c.self.view_is) at c.requires) in
    rw (c.bump.ensures, ← c.self.view_is) (passed_keeps _ one.0 one.1 (rw (← c.self.view_is) at other))
