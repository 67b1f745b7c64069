use Rattle.passassign.proofs.Common.{length, refl, ap, arith, slice_get_read}
use Rattle.passassign.proofs.slots.Few.{few_rules}
use Rattle.passassign.proofs.dependency.append_production.Goals as goal

pub overflow_cast-rule : goal.overflow_cast-rule
overflow_cast-rule c =
    let (g, p, accepted, is) = c.requires in
    record { fits = omega (arith, few_rules g accepted p c.args.production.now is, ap length c.as_slice-rules.ensures) }

pub append_dependencies-requires-clause-rule : goal.append_dependencies-requires-clause-rule
append_dependencies-requires-clause-rule c = (
  c.loop-index.index,
  rw c.as_slice-rules.ensures at
      (slice_get_read c.as_slice-rules.result.now _ c.loop-index.index _ refl c.loop-index-test.true c.index-rules-index.is),
)
