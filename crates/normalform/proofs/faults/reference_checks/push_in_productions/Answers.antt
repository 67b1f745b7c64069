-- The step of the loop.
use Rattle.normalform.proofs.Common.{map, reference_check, ResolvedProduction}
use Rattle.normalform.proofs.Listing.{flat_past}
use Rattle.normalform.proofs.faults.reference_checks.push_in_productions.Goals as goal

pub loop-production-preserved : goal.loop-production-preserved
loop-production-preserved c =
    flat_past (λ (q : ResolvedProduction). map (reference_check c.args.rule_check) q.references) _ _ _ _ _ _
    c.loop-production-test.true c.production-item.is
    (rw c.as_slice.ensures at c.in_ok-push_among.ensures)
    c.loop-production.invariant
