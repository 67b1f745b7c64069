use Rattle.std.proofs.Common.{ℕ}
use Rattle.ag_grammar.specs.Lists.{Has}
use Rattle.plan_reasons.specs.Hints.{IsCopied}
use Rattle.plan_reasons.proofs.hints.copied_among.Given as goal

abbrev pub invariant-loop-attribute : goal.invariant-loop-attribute
invariant-loop-attribute l = (x : ℕ × ℕ) → Has l.copied.items x → IsCopied l.grammar x.0 x.1
