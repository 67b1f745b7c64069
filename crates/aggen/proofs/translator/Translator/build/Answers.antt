use Rattle.aggen.proofs.Building.{conflict_exact}
use Rattle.aggen.proofs.Exits.{at_exit}
use Rattle.aggen.proofs.translator.Translator.build.Goals as goal

pub returns-in_err-tables-clause-refused : goal.returns-in_err-tables-clause-refused
returns-in_err-tables-clause-refused c =
    at_exit _ _ _ c.from_residual-in_err-tables.ensures
    (conflict_exact c.in_ok-grammar.ensures.grammar _ c.in_err-tables.ensures.conflict)
