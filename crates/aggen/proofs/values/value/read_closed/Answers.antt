use Rattle.aggen.proofs.Common.{inr, sym, ◌∙◌}
use Rattle.aggen.proofs.Closed.{explained, no_value, refused_none, same_offset, wanted}
use Rattle.aggen.proofs.Exits.{at_error, at_exit}
use Rattle.aggen.proofs.values.value.read_closed.Goals as goal

pub returns-in_err-expr-clause-refused : goal.returns-in_err-expr-clause-refused
returns-in_err-expr-clause-refused c =
    at_exit _ _ _ c.from_residual.ensures (refused_none _ c.in_err-expr.field-0.0 c.in_err-expr.ensures.refuses)

pub returns-in_err-expr-clause-offsets : goal.returns-in_err-expr-clause-offsets
returns-in_err-expr-clause-offsets c =
    at_exit _ _ _ c.from_residual.ensures
    (explained _ c.in_err-expr.field-0.0 c.in_err-expr.ensures.refuses c.in_err-expr.ensures.offsets)

pub returns-in_err-expr-clause-occurs : goal.returns-in_err-expr-clause-occurs
returns-in_err-expr-clause-occurs c = λ at occurs.
    at_error _ _ c.from_residual.ensures (wanted _ c.in_err-expr.field-0.0 at c.in_err-expr.ensures.refuses occurs)

-- the text has the occurrence that was found
pub returns-in-Some-clause-refused : goal.returns-in-Some-clause-refused
returns-in-Some-clause-refused c = λ x is has.
    no_value
    (record {
      expr = c.in_ok-expr.expr;
      reads = c.in_ok-expr.ensures.reads;
      offset = sym c.first_occurrence.ensures ∙ c.in-Some.is;
    }) has

pub returns-in-Some-clause-offsets : goal.returns-in-Some-clause-offsets
returns-in-Some-clause-offsets c =
    inr
    (record {
      expr = c.in_ok-expr.expr;
      reads = c.in_ok-expr.ensures.reads;
      offset = sym c.first_occurrence.ensures ∙ c.in-Some.is;
    })

pub returns-in-Some-clause-occurs : goal.returns-in-Some-clause-occurs
returns-in-Some-clause-occurs c = λ at occurs. let e = same_offset c.in_ok-expr.ensures.reads occurs in cc

pub returns-in-None-clause-occurs : goal.returns-in-None-clause-occurs
returns-in-None-clause-occurs c = λ at occurs. let e = same_offset c.in_ok-expr.ensures.reads occurs in absurd cc
