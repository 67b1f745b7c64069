-- Attributes by their names.
use Rattle.std.specs.Prelude.{ℕ, ◌≡◌, ◌++◌, List, ◌∷◌, Some, slice_get}
use Rattle.ag_grammar.specs.declared.grammar.Symbol.{Symbol}
use Rattle.ag_grammar.specs.grammars.AttributeGrammar.{Grammar, attribute_names}

-- The symbol of number s (from 0) in the list `symbols` exists, and its name is `name`, as bytes.
abbrev pub IsSymbolNamed : List Symbol → ℕ → List ℕ → Type 0
IsSymbolNamed symbols s name = (x : Symbol) × (slice_get symbols s ≡ Some x) × (x.name ≡ name)

-- A text names an attribute of the grammar g: the attribute of number a of the symbol of number s, both from 0. The text is the
-- name of the symbol, a dot (its code is 46), and the attribute's own name. `attribute_names` has a symbol's synthesized
-- attributes first, then the inherited ones.
pub record IsAttributeNamed (g : Grammar) (text : List ℕ) (s a : ℕ) : Type 0 where
  pub symbol : Symbol
  pub own : List ℕ
  pub is_symbol : slice_get g.symbols s ≡ Some symbol
  pub is_attribute : slice_get (attribute_names symbol) a ≡ Some own
  pub is_text : text ≡ symbol.name ++ 46 ∷ own
