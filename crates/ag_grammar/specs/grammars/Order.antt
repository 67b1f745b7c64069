-- The order of a grammar's classes and literals (this project's).
use Rattle.std.specs.Prelude.{ℕ, ◌≡◌, ◌<◌, List, Option, Some, None, slice_get, take}
use Rattle.std.specs.List.{filter_map, flat_map}
use Rattle.std.specs.List.Sorted.{IsStrictlyIncreasing}
use Rattle.ag_grammar.specs.Lists.{Has}
use Rattle.ag_grammar.specs.declared.grammar.Item.{Item}
use Rattle.ag_grammar.specs.declared.grammar.Item.TheVariants as item
use Rattle.ag_grammar.specs.declared.grammar.Terminal.TheVariants.{Literal, Class}
use Rattle.ag_grammar.specs.grammars.AttributeGrammar.{Grammar}

-- the number of the literal, if the item is one
abbrev pub literal_number : Item → Option ℕ
literal_number (item.Symbol s) = None
literal_number (item.Terminal (Literal l)) = Some l
literal_number (item.Terminal (Class c)) = None

-- the numbers of the literals on the right sides of a grammar, from the first production to the last, and
-- from left to right
abbrev pub literal_numbers : Grammar → List ℕ
literal_numbers g = filter_map literal_number (flat_map (λ q. q.items) g.productions)

-- Numbers are in the order of their first appearance: before each number, all smaller ones appear.
abbrev pub IsInOrderOfAppearance : List ℕ → Type 0
IsInOrderOfAppearance ns = (i n m : ℕ) → slice_get ns i ≡ Some n → m < n → Has (take i ns) m

-- A grammar is in order: its classes ascend, and its literals are numbered in the order of their first
-- appearance.
pub record IsInOrder (g : Grammar) : Type 0 where
  pub classes : IsStrictlyIncreasing g.classes
  pub literals : IsInOrderOfAppearance (literal_numbers g)
