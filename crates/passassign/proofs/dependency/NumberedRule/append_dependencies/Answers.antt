use Rattle.passassign.proofs.Common.{length, ap, arith}
use Rattle.passassign.proofs.slots.Few.{few_arguments}
use Rattle.passassign.proofs.dependency.NumberedRule.append_dependencies.Goals as goal

pub overflow_cast-index : goal.overflow_cast-index
overflow_cast-index c =
    let (g, p, accepted, is) = c.requires.accepted in
    let few =
    few_arguments g accepted p c.args.self.now.production.now is c.args.self.now.rule.now c.requires.rule
    c.arguments-arguments.ensures.different in
    record { fits = omega (arith, few, ap length c.arguments-arguments.ensures.lent) }
