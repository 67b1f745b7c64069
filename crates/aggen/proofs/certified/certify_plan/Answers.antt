use Rattle.aggen.proofs.Building.{conflict_exact}
use Rattle.aggen.proofs.Exits.{at_exit}
use Rattle.aggen.proofs.OneLeast.{least_is_one}
use Rattle.aggen.proofs.certified.certify_plan.Goals as goal

pub returns-in_err-_tables-clause-refused : goal.returns-in_err-_tables-clause-refused
returns-in_err-_tables-clause-refused c =
    at_exit _ _ _ c.from_residual-in_err-_tables.ensures
    (conflict_exact c.in_ok-grammar.ensures.grammar _ c.in_err-_tables.ensures.conflict)

pub returns-in-Ok-clause-same : goal.returns-in-Ok-clause-same
returns-in-Ok-clause-same c = λ rows least. least_is_one least c.in-Ok.ensures.least
