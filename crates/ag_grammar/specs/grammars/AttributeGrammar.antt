-- Attribute grammars (Knuth 1968), defined over the data types of the program. Symbols, productions, literals
-- and rules are identified by their index from 0.
use Rattle.std.specs.Prelude.{ℕ, zero, suc, ◌≡◌, List, [], ◌∷◌, ◌++◌, Option, Some, None, slice_get, map}
use Rattle.ag_grammar.specs.declared.grammar.Item.{Item}
use Rattle.ag_grammar.specs.declared.grammar.Item.TheVariants as item
use Rattle.ag_grammar.specs.declared.grammar.Production.{Production}
use Rattle.ag_grammar.specs.declared.grammar.Rule.{Rule}
use Rattle.ag_grammar.specs.declared.grammar.Symbol.{Symbol}
use Rattle.ag_grammar.specs.declared.grammar.Target.{Target}
use Rattle.ag_grammar.specs.declared.grammar.Terminal.TheVariants.{Literal, Class}
use Rattle.ag_grammar.specs.declared.syntax.occurrence.Occ.{Occ}
use Rattle.ag_grammar.specs.Lists.{Has}

-- A grammar: its symbols, its productions, the texts of its literals, the classes in use, and its start
-- symbol by number (Knuth 1968; literals and classes are this project's).
pub record Grammar : Type 0 where
  pub symbols : List Symbol
  pub productions : List Production
  pub literals : List (List ℕ)
  pub classes : List ℕ
  pub start : ℕ

-- the names of a symbol's attributes, indexed by their numbers
abbrev pub attribute_names : Symbol → List (List ℕ)
attribute_names s = s.syn ++ s.inh

-- The children of a right side: declared symbols and classes, but not literals (this project's).
abbrev pub stored_items : List Item → List Item
stored_items [] = []
stored_items (item.Symbol s ∷ xs) = item.Symbol s ∷ stored_items xs
stored_items (item.Terminal (Class c) ∷ xs) = item.Terminal (Class c) ∷ stored_items xs
stored_items (item.Terminal (Literal l) ∷ xs) = stored_items xs

-- the items at the places of a production, starting with its left side
abbrev pub places_of : Production → List Item
places_of q = item.Symbol q.left ∷ stored_items q.items

-- the item at a place of a production; `None` if the place does not exist
abbrev pub item_at : Production → ℕ → Option Item
item_at q zero = Some (item.Symbol q.left)
item_at q (suc i) = slice_get (stored_items q.items) i

-- q is the production with number p
abbrev pub IsProduction : Grammar → ℕ → Production → Type 0
IsProduction g p q = slice_get g.productions p ≡ Some q

-- r is a rule of the production
abbrev pub IsRule : Production → Rule → Type 0
IsRule q r = Has q.rules r

-- o is an argument of the rule: the rule reads this attribute, at this place
abbrev pub IsArgument : Rule → Target → Type 0
IsArgument r o = Has r.args o

-- The kind of an attribute: a synthesized one is computed in the tree below its node, an inherited one from
-- the context of the node (Knuth 1968).
pub data Kind : Type 0 where
  Synthesized : Kind
  Inherited : Kind

-- the kinds of a symbol's attributes, indexed by their numbers
abbrev pub symbol_kinds : Option Symbol → List Kind
symbol_kinds None = []
symbol_kinds (Some s) = map (λ n. Synthesized) s.syn ++ map (λ n. Inherited) s.inh

-- The kinds of an item's attributes. A token of a class has one attribute, `lex`, of number 0, which counts as
-- synthesized; a literal has none (this project's).
abbrev pub item_kinds : Grammar → Option Item → List Kind
item_kinds g None = []
item_kinds g (Some (item.Symbol s)) = symbol_kinds (slice_get g.symbols s)
item_kinds g (Some (item.Terminal (Class c))) = Synthesized ∷ []
item_kinds g (Some (item.Terminal (Literal l))) = []

-- the attribute at a place exists and has this kind
abbrev pub HasKind : Grammar → Production → Target → Kind → Type 0
HasKind g q o k = slice_get (item_kinds g (item_at q o.place)) o.attr ≡ Some k

-- the kind of the attributes that the rules of a production define at a place: synthesized on the left side,
-- inherited on the right side
abbrev pub defined_kind : ℕ → Kind
defined_kind zero = Synthesized
defined_kind (suc i) = Inherited

-- the kind of the attributes that the rules of a production use at a place: inherited on the left side,
-- synthesized on the right side
abbrev pub used_kind : ℕ → Kind
used_kind zero = Inherited
used_kind (suc i) = Synthesized

-- the name `lex`, as bytes
abbrev pub lex_name : List ℕ
lex_name = 108 ∷ 101 ∷ 120 ∷ []

-- the names of a symbol's attributes; none if the symbol does not exist
abbrev pub symbol_names : Option Symbol → List (List ℕ)
symbol_names None = []
symbol_names (Some s) = attribute_names s

-- the names of an item's attributes, indexed by their numbers: `lex` for a token of a class, none for a literal
-- (this project's)
abbrev pub item_names : Grammar → Option Item → List (List ℕ)
item_names g None = []
item_names g (Some (item.Symbol s)) = symbol_names (slice_get g.symbols s)
item_names g (Some (item.Terminal (Class c))) = lex_name ∷ []
item_names g (Some (item.Terminal (Literal l))) = []

-- An occurrence in the text of a rule refers to the attribute of its name at its place.
pub record RefersTo (g : Grammar) (q : Production) (occurrence : Occ) (attribute : Target) : Type 0 where
  pub place : attribute.place ≡ occurrence.place
  pub name : slice_get (item_names g (item_at q attribute.place)) attribute.attr ≡ Some occurrence.attr

-- the text of the literal with this number; empty if there is none
abbrev pub literal_text : Grammar → ℕ → List ℕ
literal_text g l = elim (slice_get g.literals l) [ Some x ↦ x | None ↦ [] ]
