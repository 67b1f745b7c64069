use Rattle.aggen.proofs.Exits.{at_error}
use Rattle.aggen.proofs.values.value.value_of.Goals as goal

pub returns-in_err-expr-clause-occurs : goal.returns-in_err-expr-clause-occurs
returns-in_err-expr-clause-occurs c = λ at occurs.
    at_error _ _ c.from_residual.ensures (c.in_err-expr.ensures.occurs at occurs)
