-- Examples: tables, and a grammar with a conflict. The grammar has the productions L = L "x" and L = "x", in which L is symbol 0
-- and "x" is literal 0. Its list of symbols and its lists of rules are empty, since they don't matter here.
use Rattle.std.specs.Prelude.{List, [], ◌∷◌, Some, None}
use Rattle.ag_grammar.specs.declared.grammar.Item.TheVariants as item
use Rattle.ag_grammar.specs.declared.grammar.Item.{Item}
use Rattle.ag_grammar.specs.declared.grammar.Production.{Production}
use Rattle.ag_grammar.specs.declared.grammar.Terminal.TheVariants.{Literal}
use Rattle.ag_grammar.specs.grammars.AttributeGrammar.{Grammar}
use Rattle.llparse.specs.declared.ahead.Ahead.TheVariants as ahead
use Rattle.llparse.specs.declared.table.fault.TableFault.{TableFault}
use Rattle.llparse.specs.declared.table.fault.TableFault.TheVariants as table_fault
use Rattle.llparse.specs.table.Tables.{Choices}

-- a production of symbol 0 with this right side
abbrev pub production_of : List Item → Production
production_of items = record { left = 0; items = items; rules = [] }

-- production 0: L = L "x"
abbrev pub production_more : Production
production_more = production_of (item.Symbol 0 ∷ item.Terminal (Literal 0) ∷ [])

-- production 1: L = "x"
abbrev pub production_one : Production
production_one = production_of (item.Terminal (Literal 0) ∷ [])

-- the grammar of the two; 120 is the ASCII code of x
abbrev pub left_recursive : Grammar
left_recursive =
    record {
      symbols = [];
      productions = production_more ∷ production_one ∷ [];
      literals = (120 ∷ []) ∷ [];
      classes = [];
      start = 0;
    }

-- its only conflict: that of the two productions at "x"
abbrev pub its_conflict : TableFault
its_conflict = table_fault.Conflict 0 0 1 (ahead.Terminal (Literal 0))

-- tables of a grammar with one literal and one symbol: production 0 at the literal, production 1 at the end
abbrev pub small_tables : Choices
small_tables = record { literals = 1; columns = (Some 0 ∷ []) ∷ (None ∷ []) ∷ (None ∷ []) ∷ (None ∷ []) ∷ (Some 1 ∷ []) ∷ [] }
