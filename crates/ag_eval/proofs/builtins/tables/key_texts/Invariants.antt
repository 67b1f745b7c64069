use Rattle.ag_eval.proofs.Common
use Common.{◌≡◌, map, take}
use Common.value
use Rattle.ag_eval.proofs.builtins.tables.key_texts.Given as goal

abbrev pub invariant-loop-pair : goal.invariant-loop-pair
invariant-loop-pair l = l.keys.items ≡ map (λ p. value.Text p.0) (take l.pair-index l.pairs)
