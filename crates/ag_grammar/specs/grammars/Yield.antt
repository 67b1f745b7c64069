-- The yield of a tree.
use Rattle.std.specs.Prelude.{ℕ, List, [], ◌∷◌, ◌++◌, Option, Some, None, slice_get}
use Rattle.ag_grammar.specs.declared.grammar.Item.TheVariants as item
use Rattle.ag_grammar.specs.declared.grammar.Item.{Item}
use Rattle.ag_grammar.specs.declared.grammar.Production.{Production}
use Rattle.ag_grammar.specs.declared.grammar.Terminal.TheVariants.{Literal, Class}
use Rattle.ag_grammar.specs.declared.grammar.Terminal.{Terminal}
use Rattle.ag_grammar.specs.grammars.AttributeGrammar.{Grammar, literal_text}
use Rattle.ag_grammar.specs.grammars.Tree.{Tree, Forest, leaf, node, none, more}

-- a terminal and its text
abbrev pub Lexeme : Type 0
Lexeme = Terminal × List ℕ

-- the items of a production's right side
abbrev pub right_side : Option Production → List Item
right_side None = []
right_side (Some q) = q.items

-- The yield (the textbook's): the terminals of a tree with their texts, from left to right, the literals of its
-- productions included.
abbrev mutual
  pub yield_of : Grammar → Tree → List Lexeme
  yield_of g (leaf c x) = (Class c, x) ∷ []
  yield_of g (node p ts) = yield_along g (right_side (slice_get g.productions p)) ts

  -- the yield of trees along the items of a right side; it ends where a tree is missing
  pub yield_along : Grammar → List Item → Forest → List Lexeme
  yield_along g [] ts = []
  yield_along g (item.Terminal (Literal l) ∷ xs) ts = (Literal l, literal_text g l) ∷ yield_along g xs ts
  yield_along g (item.Terminal (Class c) ∷ xs) none = []
  yield_along g (item.Symbol s ∷ xs) none = []
  yield_along g (item.Terminal (Class c) ∷ xs) (more t ts) = yield_of g t ++ yield_along g xs ts
  yield_along g (item.Symbol s ∷ xs) (more t ts) = yield_of g t ++ yield_along g xs ts
