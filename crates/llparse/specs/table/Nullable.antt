-- The clauses by which symbols are nullable.
use Rattle.std.specs.Prelude.{ℕ, ◌≡◌, ◌↔◌, Bool, true, false, List, length, map}
use Rattle.ag_grammar.specs.declared.grammar.Item.TheVariants as item
use Rattle.ag_grammar.specs.declared.grammar.Item.{Item}
use Rattle.ag_grammar.specs.declared.grammar.Production.{Production}
use Rattle.ag_grammar.specs.grammars.AttributeGrammar.{Grammar}
use Rattle.closure.specs.Following.{is_marked}
use Rattle.closure.specs.declared.clause.Clause.{Clause}
use Rattle.llparse.specs.Ahead.{IsNullable}
use Rattle.llparse.specs.table.Nodes.{node_of}

-- whether an item is nullable, for a set of nullable symbols: it is a symbol of the set
abbrev pub is_nullable_item : (ℕ → Bool) → Item → Bool
is_nullable_item n (item.Symbol s) = n s
is_nullable_item n (item.Terminal a) = false

-- the clause of a production, for the counts of symbols and of literals: the left side is nullable if each item of the right
-- side is
abbrev pub clause_of : ℕ → ℕ → Production → Clause
clause_of symbols literals q = record { head = q.left; body = map (node_of symbols literals) q.items }

-- the clauses of all productions of a grammar
abbrev pub clauses_of : Grammar → List Clause
clauses_of g = map (clause_of (length g.symbols) (length g.literals)) g.productions

-- the marks are those of the nullable symbols
abbrev pub AreNullableMarks : Grammar → List Bool → Type 0
AreNullableMarks g marks = (s : ℕ) → is_marked marks s ≡ true ↔ IsNullable g s
