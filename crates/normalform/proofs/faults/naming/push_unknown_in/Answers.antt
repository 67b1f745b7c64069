-- The items, then the rules.
use Rattle.normalform.proofs.Common.{flat_map, map, place_checks, reference_check}
use Rattle.normalform.specs.declared.faults.reference_checks.RuleCheck.TheVariants as rule_check
use Rattle.normalform.proofs.Listing.{two_parts}
use Rattle.normalform.proofs.faults.naming.push_unknown_in.Goals as goal

pub returns : goal.returns
returns c =
    let q = c.args.production.now in
    two_parts (flat_map (place_checks c.args.declared.now) q.places) (map (reference_check rule_check.Known) q.references) _ _ _
    (rw c.as_slice.ensures at c.in_ok-push_unknown_items.ensures)
    (rw c.as_slice-2.ensures at c.in_ok-push_among.ensures)
