-- The numbering of look-aheads and items (this project's).
use Rattle.std.specs.Prelude.{ℕ, ◌+◌}
use Rattle.ag_grammar.specs.declared.grammar.Item.TheVariants as item
use Rattle.ag_grammar.specs.declared.grammar.Item.{Item}
use Rattle.ag_grammar.specs.declared.grammar.Terminal.TheVariants.{Literal, Class}
use Rattle.ag_grammar.specs.grammars.Accepted.{class_count}
use Rattle.llparse.specs.declared.ahead.Ahead.{Ahead}
use Rattle.llparse.specs.declared.ahead.Ahead.TheVariants as ahead
use Rattle.llparse.specs.declared.table.nodes.Sizes.{Sizes}

-- The index of a look-ahead, from 0, for a count of literals: the literals by their numbers, then the classes by
-- theirs, then the end.
abbrev pub index_of : ℕ → Ahead → ℕ
index_of literals (ahead.Terminal (Literal l)) = l
index_of literals (ahead.Terminal (Class c)) = literals + c
index_of literals ahead.End = literals + class_count

-- An item's node, for the counts of symbols and of literals: the node of a symbol has the symbol's number, and the nodes of
-- look-aheads come after those of symbols.
abbrev pub node_of : ℕ → ℕ → Item → ℕ
node_of symbols literals (item.Symbol s) = s
node_of symbols literals (item.Terminal a) = symbols + index_of literals (ahead.Terminal a)

-- an item's node by the sizes of a grammar
abbrev pub node_by : Sizes → Item → ℕ
node_by sizes x = node_of sizes.symbols sizes.literals x
