use Rattle.std.proofs.Common.{◌≡◌, ◌+◌, ◌≤◌, drop}
use Rattle.tree_index.specs.Tokens.{literal_count}
use Rattle.tree_index.proofs.tokens.literals_of.Given as goal

abbrev pub invariant-loop-item : goal.invariant-loop-item
invariant-loop-item l = record {
  counted : l.literals + literal_count (drop l.item-index l.production.items) ≡ literal_count l.production.items;
  room : l.literals ≤ l.item-index;
}
