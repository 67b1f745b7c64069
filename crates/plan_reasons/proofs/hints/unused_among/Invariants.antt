use Rattle.std.proofs.Common.{ℕ}
use Rattle.ag_grammar.specs.Lists.{Has}
use Rattle.plan_reasons.specs.Hints.{IsUnused}
use Rattle.plan_reasons.proofs.hints.unused_among.Given as goal

abbrev pub invariant-loop-attribute : goal.invariant-loop-attribute
invariant-loop-attribute l = (x : ℕ × ℕ) → Has l.unused.items x → IsUnused l.grammar x.0 x.1
