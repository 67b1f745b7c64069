use Rattle.planchecker.proofs.Common.{Target, passes_of, IsAvailable, state_of}
use Rattle.planchecker.proofs.Loops.{Prefix}
use Rattle.planchecker.proofs.following.NodeState.are_available.Given as goal

abbrev pub invariant-loop-argument : goal.invariant-loop-argument
invariant-loop-argument l = Prefix
    (λ i (o : Target). IsAvailable (passes_of l.self.context.assignment.now) l.self.context.production.now l.self.context.pass
    (state_of l.self) o) l.arguments l.argument-index
