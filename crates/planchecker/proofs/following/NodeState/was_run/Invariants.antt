use Rattle.planchecker.proofs.Common.{RunsRule}
use Rattle.planchecker.proofs.Loops.{Prefix}
use Rattle.planchecker.proofs.following.NodeState.was_run.Given as goal

abbrev pub invariant-loop-index : goal.invariant-loop-index
invariant-loop-index l = Prefix (λ i x. RunsRule x l.number → ⊥) l.self.list.now l.index
