-- Tokens and trees for worked examples.
use Rattle.std.specs.Prelude.{ℕ, List, [], ◌∷◌, pos, codes}
use Rattle.ag_tokens.specs.declared.token.Punctuation.TheVariants as punctuation
use Rattle.ag_tokens.specs.PlacedToken.{PlacedToken}
use Rattle.ag_tokens.specs.GrammarToken.{GrammarToken}
use Rattle.ag_tokens.specs.GrammarToken as token
use Rattle.ag_grammar.specs.declared.syntax.node.Operator.TheVariants as operator
use Rattle.ag_grammar.specs.declared.syntax.node.Node.{Node}
use Rattle.ag_grammar.specs.declared.syntax.node.Node.TheVariants as node
use Rattle.ag_value.specs.declared.value.Value.TheVariants as value

-- a token at an offset
abbrev pub placed : ℕ → GrammarToken → PlacedToken
placed at t = record { at = at; token = t }

-- the tokens of `$1.a + 2`, with their offsets
abbrev pub occurrence_and_number : List PlacedToken
occurrence_and_number =
    placed 0 (token.Occurrence 1 (codes "a")) ∷ placed 5 (token.Punctuation punctuation.Plus) ∷ placed 7 (token.Number (pos 2))
    ∷ []

-- the tree of `2 + 3 * 4`
abbrev pub sum_and_product : Node
sum_and_product =
    node.Chain (node.Literal (value.Num (pos 2)))
    ((
      operator.Add,
      node.Chain (node.Literal (value.Num (pos 3))) ((operator.Multiply, node.Literal (value.Num (pos 4))) ∷ []),
    ) ∷ [])

-- the tokens of `let x = 1 in x < 2`, with their offsets; the next definition is its tree
abbrev pub let_and_compare : List PlacedToken
let_and_compare =
    placed 0 (token.Name (codes "let")) ∷ placed 4 (token.Name (codes "x")) ∷ placed 6 (token.Punctuation punctuation.Equal)
    ∷ placed 8 (token.Number (pos 1)) ∷ placed 10 (token.Name (codes "in")) ∷ placed 13 (token.Name (codes "x"))
    ∷ placed 15 (token.Punctuation punctuation.Less) ∷ placed 17 (token.Number (pos 2)) ∷ []

abbrev pub bound_and_compared : Node
bound_and_compared =
    node.Let (node.Literal (value.Num (pos 1)))
    (node.Chain (node.Bound 0) ((operator.Less, node.Literal (value.Num (pos 2))) ∷ []))
