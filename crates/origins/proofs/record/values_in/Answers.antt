use Rattle.std.proofs.Common.{arith}
use Rattle.origins.proofs.Reading.{not_decoded, same_fault, too_many}
use Rattle.origins.proofs.record.values_in.Goals as goal

pub returns-in_err-value-clause-damaged : goal.returns-in_err-value-clause-damaged
returns-in_err-value-clause-damaged c = λ damaged.
    not_decoded c.loop-value.rest.now c.loop-value.values.items c.loop-value.invariant.well c.loop-value.invariant.spelled
    c.in_err-value.field-0.0 c.if-is_empty.ensures
    (λ value others well is. c.in_err-value.ensures.read value others well is)
    (same_fault c.from_residual.result c.in_err-value.field-0.0 c.from_residual.ensures.1 damaged)

pub returns-clause-damaged : goal.returns-clause-damaged
returns-clause-damaged c = λ damaged.
    too_many c.loop-value.rest.now c.loop-value.values.items c.loop-value.invariant.well c.loop-value.invariant.spelled
    (omega (arith, c.loop-value.invariant.counted, c.loop-value-test.false))
