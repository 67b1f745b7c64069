use Rattle.plan_reasons.specs.Links.{IsObstacleOf}
use Rattle.plan_reasons.proofs.Listed.{had_or_new}
use Rattle.planchecker.proofs.Loops.{is_yes}
use Rattle.plan_reasons.proofs.links.append_obstacle.Goals as goal

pub returns : goal.returns
returns c =
    had_or_new (IsObstacleOf c.args.grammar.now c.args.direction c.args.strike) c.args.obstacles.now.items c.push.new.self.items
    c.in-Some.link c.in_ok-push.ensures.items (c.in-Some.ensures, is_yes c.if-not-is_same_or_later.ensures)
