use Rattle.passrun.proofs.Common.{ap, arith, length, length-append, option_to_list}
use Rattle.passrun.proofs.steps.Paths.{prefix_is_path}
use Rattle.passrun.proofs.passing.open_nodes.OpenNodes.pop.Goals as goal

pub invariant_of-self : goal.invariant_of-self
invariant_of-self c =
    let left = c.pop.new.self.items in
    let last = option_to_list c.pop.result in (
      prefix_is_path c.self.inside.root left last (rw c.pop.ensures.items at c.self.invariant.0),
      omega (arith, ap length c.pop.ensures.items, length-append left last, c.self.invariant.1),
    )
