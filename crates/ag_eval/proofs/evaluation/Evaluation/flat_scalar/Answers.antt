use Rattle.ag_eval.proofs.Common.{[], chain_is}
use Rattle.ag_eval.proofs.evaluation.Evaluation.flat_scalar.Goals as goal

pub returns-in-Chain : goal.returns-in-Chain
returns-in-Chain g c =
    let env = g.V.Lender.lent c.args.self.now.env.now in
    let is = chain_is c.tree-node.result.now c.in-Chain.first c.in-Chain.others env [] c.in-Chain.is in
    rw (← c.tree-node.ensures.value, is, ← c.get.ensures, ← c.as_slice.ensures) c.flat_chain.ensures
