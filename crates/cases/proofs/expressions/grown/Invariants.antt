use Rattle.ag_value.specs.Well.{IsWell}
use Rattle.cases.proofs.expressions.grown.Given as goal

abbrev pub invariant-loop : goal.invariant-loop
invariant-loop l = IsWell l.value
