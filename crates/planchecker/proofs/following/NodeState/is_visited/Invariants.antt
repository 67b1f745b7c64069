use Rattle.planchecker.proofs.Common.{ℕ, ◌≡◌, ◌<◌}
use Rattle.passcode.specs.Course.{place_of}
use Rattle.planchecker.proofs.following.NodeState.is_visited.Given as goal

abbrev pub invariant-loop-turn : goal.invariant-loop-turn
invariant-loop-turn l = (t : ℕ) → t < l.turn → l.place ≡ place_of l.self.context.production.now l.self.context.pass t → ⊥
