use Rattle.std.proofs.Common.{◌≡◌, ℕ, suc, length, slice_get, Some}
use Rattle.tree_index.specs.Tokens.{count_before}
use Rattle.tree_index.proofs.tokens.TokenCounts.new.Given as goal

abbrev pub invariant-loop-node : goal.invariant-loop-node
invariant-loop-node l = record {
  long : length l.before.items ≡ suc l.node;
  count : l.count ≡ count_before l.grammar l.index.kinds.items l.node;
  each : (i n : ℕ) → slice_get l.before.items i ≡ Some n → n ≡ count_before l.grammar l.index.kinds.items i;
}
