-- The lines of values and of counts. All of this is this project's.
use Rattle.std.specs.Prelude.{◌++◌, ℕ, List, length, codes, decimal}
use Rattle.ag_grammar.specs.grammars.AttributeGrammar.{Grammar}
use Rattle.ag_value.specs.Shown.{shown_of}
use Rattle.ag_value.specs.declared.value.Value.{Value}

-- the line of a value: its text as `show` of `ag_value` returns it, and LF
abbrev pub value_line : Value → List ℕ
value_line value = shown_of value ++ codes "\n"

-- the line with the number of symbols and the number of productions of a grammar, as `1 symbols, 2 productions`; its words don't
-- change with the numbers
abbrev pub counts_line : Grammar → List ℕ
counts_line g =
    decimal (length g.symbols) ++ codes " symbols, " ++ decimal (length g.productions) ++ codes " productions\n"

-- the line with the number of nodes of a tree, as `3 nodes`; its word doesn't change with the number
abbrev pub nodes_line : ℕ → List ℕ
nodes_line count = decimal count ++ codes " nodes\n"
