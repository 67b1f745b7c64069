use Rattle.causes.proofs.Stops.{NoneBefore}
use Rattle.causes.proofs.next_rule.rule_for.Given as goal

abbrev pub invariant-loop-number : goal.invariant-loop-number
invariant-loop-number l = NoneBefore l.rules l.target l.number
