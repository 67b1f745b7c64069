use Rattle.ag_eval.proofs.Common.{◌≡◌, [], length, drop, map, true, chain_value, value_in, all_below, scalar_value}
use Rattle.ag_eval.proofs.evaluation.Evaluation.flat_chain.Given as goal

abbrev pub invariant-loop-other : goal.invariant-loop-other
invariant-loop-other g l = record {
  same : chain_value (g.V.Lender.lent l.self.env.now) [] (scalar_value l.so_far)
      (map (λ p. (p.0, value_in p.1)) (drop l.other-index l.others)) ≡ chain_value (g.V.Lender.lent l.self.env.now) []
      (value_in l.first (g.V.Lender.lent l.self.env.now) []) (map (λ p. (p.0, value_in p.1)) l.others);
  below : all_below (length l.self.expr.now.occurrences) 0 (drop l.other-index l.others) ≡ true;
}
