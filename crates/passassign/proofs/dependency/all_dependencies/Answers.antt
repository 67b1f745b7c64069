use Rattle.passassign.proofs.Common.{length, refl, ap, arith, slice_get_read}
use Rattle.passassign.proofs.dependency.all_dependencies.Goals as goal

pub overflow_cast-index : goal.overflow_cast-index
overflow_cast-index c = record { fits = omega (arith, c.requires.1.limits.production_count, ap length c.requires.2) }

pub append_production-requires : goal.append_production-requires
append_production-requires c =
    let (g, accepted, same) = c.requires in (
      g,
      c.loop-index.index,
      accepted,
      rw same (slice_get_read _ _ c.loop-index.index _ refl c.loop-index-test.true c.index-productions-index.is),
    )
