use Rattle.passcode.proofs.Common.{ℕ, ◌≡◌, ◌<◌, false, Some, slice_get, Rule, is_same}
use Rattle.passcode.proofs.course.ListContext.rule_for.Given as goal

abbrev pub invariant-loop-number : goal.invariant-loop-number
invariant-loop-number l = (i : ℕ) (u : Rule) → i < l.number → slice_get l.self.production.now.rules i ≡ Some u
    → is_same u.target l.target ≡ false
