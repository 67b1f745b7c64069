use Rattle.plan_reasons.proofs.Linked.{later_ahead}
use Rattle.planchecker.proofs.Loops.{is_yes}
use Rattle.plan_reasons.proofs.links.geometry_of.Goals as goal

pub returns : goal.returns
returns c =
    later_ahead c.args.direction c.args.first c.args.second (is_yes c.if-not-is_same_or_later.ensures) c.if-second-first.false
