-- The step of the loop.
use Rattle.std.proofs.lemmas.List.{get_or_default}
use Rattle.normalform.proofs.Common.{new_target, with_reference}
use Rattle.normalform.proofs.Listing.{along_past}
use Rattle.normalform.proofs.faults.rules.push_doubled_in.Goals as goal

pub loop-reference-preserved : goal.loop-reference-preserved
loop-reference-preserved c =
    along_past new_target with_reference _ _ c.args.references.now c.loop-reference.reference-index _ _ _ _
    c.loop-reference-test.true
    (get_or_default c.args.references.now c.loop-reference.reference-index _ _ c.loop-reference-test.true)
    c.in_ok-push_doubled_rule.ensures.faults c.in_ok-push_doubled_rule.ensures.added c.loop-reference.invariant
