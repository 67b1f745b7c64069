use Rattle.ag_eval.proofs.Common.{◌≡◌, length, drop, map, true, chain_value, value_in, all_below, scalar_value}
use Rattle.ag_eval.proofs.evaluation.Evaluation.+scalars.Given as goal

abbrev pub invariant-scalar_of_chain-loop-other : goal.invariant-scalar_of_chain-loop-other
invariant-scalar_of_chain-loop-other g l = record {
  same : chain_value (g.V.Lender.lent l.self.env.now) l.bindings (scalar_value l.so_far)
      (map (λ p. (p.0, value_in p.1)) (drop l.other-index l.other-items)) ≡ value_in l.node
      (g.V.Lender.lent l.self.env.now) l.bindings;
  below : all_below (length l.self.expr.now.occurrences) (length l.bindings) (drop l.other-index l.other-items) ≡ true;
}
