use Rattle.ag_eval.proofs.Common.{length, refl, rules, sym, the_lemmas, chain_below, chain_is, operand_below}
use Rattle.ag_eval.proofs.evaluation.Evaluation.+scalars.Goals as goal

pub scalar_of_chain-loop-other-init : goal.scalar_of_chain-loop-other-init
scalar_of_chain-loop-other-init g t c = record {
  same = rw (c.in_ok-so_far.ensures, c.as_slice-other-items.ensures, c.get.ensures)
      (sym (chain_is c.args.node.now c.in-Chain.first c.in-Chain.others _ c.args.bindings.now c.in-Chain.is));
  below = rw c.as_slice-other-items.ensures (chain_below _ _ c.args.node.now _ _ c.in-Chain.is c.requires);
}

pub scalar_of_chain-scalar-requires-in-loop-other : goal.scalar_of_chain-scalar-requires-in-loop-other
scalar_of_chain-scalar-requires-in-loop-other g t c = λ κs le. (
  search (rules, the_lemmas),
  (
    le,
    operand_below (length c.args.self.now.expr.now.occurrences)
        (length c.args.bindings.now) _ c.as_slice-other-items.result.now c.loop-other.other-index c.other-item.result
        c.loop-other-test.true c.other-item.is refl c.loop-other.invariant.below,
  ),
)
