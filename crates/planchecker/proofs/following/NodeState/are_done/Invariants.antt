use Rattle.planchecker.proofs.Common.{◌≡◌, Has, Rule, HasPass, passes_of, state_of}
use Rattle.planchecker.proofs.Loops.{Prefix}
use Rattle.planchecker.proofs.following.NodeState.are_done.Given as goal

abbrev pub invariant-loop-number : goal.invariant-loop-number
invariant-loop-number l = Prefix
    (λ r (u : Rule). u.target.place ≡ l.place → HasPass (passes_of l.self.context.assignment.now) l.self.context.production.now
    u.target l.self.context.pass → Has (state_of l.self).done r) l.self.context.production.now.rules l.number
