use Rattle.std.proofs.Common.{◌≡◌, ◌<◌, ℕ, Some, slice_get}
use Rattle.ag_grammar.specs.grammars.Accepted.{out_name}
use Rattle.roottext.proofs.root.out_among.Given as goal

abbrev pub invariant-loop-index : goal.invariant-loop-index
invariant-loop-index l = (j : ℕ) → j < l.index → slice_get l.names j ≡ Some out_name → ⊥
