use Rattle.std.proofs.Common.{ℕ, ◌≡◌, ◌<◌, Some, slice_get}
use Rattle.passassign.specs.declared.stuck.Strike.{Strike}
use Rattle.passassign.specs.Rows.{passes_of}
use Rattle.plan_reasons.proofs.chains.first_with_pass.Given as goal

abbrev pub invariant-loop-strike : goal.invariant-loop-strike
invariant-loop-strike l = (k : ℕ) (x : Strike) → k < l.strike-index → slice_get l.strikes k ≡ Some x
    → slice_get (passes_of l.assignment x.symbol) x.attr ≡ Some l.pass → ⊥
