use Rattle.ag_grammar.specs.Lists.{Has}
use Rattle.plan_reasons.specs.Links.{IsObstacle}
use Rattle.plan_reasons.specs.declared.links.Link.{Link}
use Rattle.plan_reasons.proofs.links.obstacles_of.Given as goal

abbrev pub invariant-loop-strike : goal.invariant-loop-strike
invariant-loop-strike l = (x : Link) → Has l.obstacles.items x → IsObstacle l.grammar l.direction l.strikes x
