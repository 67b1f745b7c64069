use Rattle.ag_eval.proofs.Common
use Common.{◌≡◌, ◌++◌, length, drop, map, true, chain_value, item_values, value_in, IsIn, each_within, operand_value, all_below}
use Common.{fault_or, leftmost, fit, listed}
use Common.value
use Rattle.ag_eval.proofs.evaluation.Evaluation.+evaluating.Given as goal

abbrev pub invariant-chain_of-loop-other : goal.invariant-chain_of-loop-other
invariant-chain_of-loop-other g l = record {
  same : chain_value (g.V.Lender.lent l.self.env.now) l.bindings (operand_value l.bindings l.value)
      (map (λ p. (p.0, value_in p.1)) (drop l.other-index l.others)) ≡ chain_value (g.V.Lender.lent l.self.env.now) l.fn.bindings
      (operand_value l.fn.bindings l.fn.so_far) (map (λ p. (p.0, value_in p.1)) l.others);
  within : IsIn l.bindings l.value;
  below : all_below (length l.self.expr.now.occurrences) (length l.bindings) (drop l.other-index l.others) ≡ true;
  unchanged : l.bindings ≡ l.fn.bindings;
}

abbrev pub invariant-list_of-loop-item : goal.invariant-list_of-loop-item
invariant-list_of-loop-item g l = record {
  same : fault_or (leftmost (item_values (g.V.Lender.lent l.self.env.now) l.bindings (map value_in (drop l.item-index l.items))))
      (fit
      (value.List
      (l.list ++ item_values (g.V.Lender.lent l.self.env.now) l.bindings (map value_in (drop l.item-index l.items)))))
      ≡ listed (item_values (g.V.Lender.lent l.self.env.now) l.fn.bindings (map value_in l.items));
  below : each_within (length l.self.expr.now.occurrences) (length l.bindings) (drop l.item-index l.items) ≡ true;
  unchanged : l.bindings ≡ l.fn.bindings;
}
