use Rattle.passcode.proofs.Common.{◌≡◌, [], passes_of, visits}
use Rattle.passcode.proofs.course.ListContext.list.Given as goal

abbrev pub invariant-loop-turn : goal.invariant-loop-turn
invariant-loop-turn l = l.list.items ≡ visits (passes_of l.self.assignment.now) l.self.production.now l.self.pass [] 0 l.turn
