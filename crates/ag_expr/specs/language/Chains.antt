-- Chains of operators, parsed as the code does it: first the first atom of the outermost chain, then the rest of
-- each chain, from the innermost to the outermost.
use Rattle.std.specs.Prelude.{Bool, false, ◌||◌, List, [], ◌∷◌}
use Rattle.ag_grammar.specs.declared.syntax.node.Node.{Node}
use Rattle.ag_expr.specs.declared.parser.Precedence.{Precedence}
use Rattle.ag_tokens.specs.Parsing.{◌>>=◌, pure, further_from}
use Rattle.ag_tokens.specs.GrammarToken.{GrammarToken}
use Rattle.ag_expr.specs.language.Reading.{Parser, is_operator_of, other_from, ranked_from}
use Rattle.ag_expr.specs.language.Syntax.{chain_of, same_precedence, takes_one}

-- the rest of a chain of this precedence after its first operand, `first`; `operand` is the parser of its operands
unfoldable pub chain_after : Precedence → Parser Node → Node → Parser Node
chain_after k operand first = do
  others ← further_from (takes_one k) (is_operator_of k) (other_from k operand) []
  pure (chain_of first others)

-- the rest of nested chains after their first atom, `first`; `atom` is the parser of atoms, and the last precedence binds most
-- strongly
unfoldable pub ranked_after : Parser Node → List Precedence → Node → Parser Node
ranked_after atom [] first = pure first
ranked_after atom (k ∷ ks) first = do
  operand ← ranked_after atom ks first
  chain_after k (ranked_from atom ks) operand

-- whether a precedence is in the list
abbrev pub is_among : List Precedence → Precedence → Bool
is_among [] other = false
is_among (k ∷ ks) other = same_precedence k other || is_among ks other

-- whether a token is an operator of a precedence in the list
abbrev pub is_operator_among : List Precedence → GrammarToken → Bool
is_operator_among [] t = false
is_operator_among (k ∷ ks) t = is_operator_of k t || is_operator_among ks t
