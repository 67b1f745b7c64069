-- Where a node's record, in the file of the last pass, has the values that a rule of the node uses. (This file has all values.)
-- In these definitions g is a grammar, s the number of a symbol, q a production, o an argument, and vs are the values of a
-- record. All of this is this project's.
use Rattle.std.specs.Prelude.{ℕ, zero, suc, ◌+◌, pos, get_or, List, [], ◌∷◌, Option, Some, None, slice_get, length}
use Rattle.ag_value.specs.declared.value.Value.{Value, Num}
use Rattle.ag_grammar.specs.declared.grammar.Item.{Item}
use Rattle.ag_grammar.specs.declared.grammar.Item.TheVariants as item
use Rattle.ag_grammar.specs.declared.grammar.Production.{Production}
use Rattle.ag_grammar.specs.declared.grammar.Symbol.{Symbol}
use Rattle.ag_grammar.specs.declared.grammar.Target.{Target}
use Rattle.ag_grammar.specs.declared.grammar.Terminal.TheVariants.{Literal, Class}
use Rattle.ag_grammar.specs.grammars.AttributeGrammar.{Grammar, attribute_names, stored_items}
use Rattle.treefile.specs.records.Records.{synthesized_count}
use Rattle.origins.specs.Arising.{Table}

-- the number of attributes of a symbol; 0 if there is no symbol
abbrev pub count_of_symbol : Option Symbol → ℕ
count_of_symbol None = 0
count_of_symbol (Some s) = length (attribute_names s)

-- the number of attributes of the symbol with number s of a grammar; 0 if the grammar has no such symbol
abbrev pub attribute_count : Grammar → ℕ → ℕ
attribute_count g s = count_of_symbol (slice_get g.symbols s)

-- the number of copies that a record has of the values at an item: of a symbol's synthesized attributes, and of a token's text
abbrev pub copied : Grammar → Item → ℕ
copied g (item.Symbol s) = synthesized_count (slice_get g.symbols s)
copied g (item.Terminal (Class c)) = 1
copied g (item.Terminal (Literal l)) = 0

-- the number of copies that a record has of the values at the first j of some items, all of which are children
abbrev pub copies_before : Grammar → List Item → ℕ → ℕ
copies_before g [] j = 0
copies_before g (x ∷ xs) zero = 0
copies_before g (x ∷ xs) (suc j) = copied g x + copies_before g xs j

-- the index at which the values at a place begin: the node's own come first, and the copies of its children's after them, from
-- left to right
abbrev pub start : Grammar → Production → ℕ → ℕ
start g q zero = 0
start g q (suc j) = attribute_count g q.left + copies_before g (stored_items q.items) j

-- the index of the value of an argument
abbrev pub slot : Grammar → Production → Target → ℕ
slot g q o = start g q o.place + o.attr

-- the value of an argument in a list of the values of a record, or `spare` if the list does not have it
abbrev pub argument : Grammar → Production → List Value → Value → Option Target → Value
argument g q vs spare None = spare
argument g q vs spare (Some o) = get_or vs (slot g q o) spare

-- The values at the places of a node, taken from the list vs of the values of the node's record. They are right for the
-- attributes that a rule of the node may use: those of the left side, and the synthesized ones of the children. For an inherited
-- attribute of a child the value has no meaning. If the list is too short, the value is 0.
abbrev pub table_of : Grammar → Production → List Value → Table
table_of g q vs j a = get_or vs (start g q j + a) (Num (pos 0))
