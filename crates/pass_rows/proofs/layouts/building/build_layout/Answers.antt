use Rattle.pass_rows.proofs.places.Widths.{are_small, few_places, are_within}
use Rattle.pass_rows.proofs.layouts.building.build_layout.Goals as goal

pub row_of_production-requires-clause-small : goal.row_of_production-requires-clause-small
row_of_production-requires-clause-small c =
    are_small c.productions-production-items.ensures.accepted c.requires.plan.legal

pub row_of_production-requires-clause-few : goal.row_of_production-requires-clause-few
row_of_production-requires-clause-few c =
    few_places c.productions-production-items.ensures.accepted c.loop-number.number
    c.productions-production-items.ensures.lent c.loop-number-test.true c.production-item.is

pub row_of_production-requires-clause-within : goal.row_of_production-requires-clause-within
row_of_production-requires-clause-within c =
    are_within c.productions-production-items.ensures.accepted c.loop-number.number
    c.productions-production-items.ensures.lent c.loop-number-test.true c.production-item.is
