-- Values and trees for worked examples.
use Rattle.std.specs.Prelude.{ℕ, ℤ, pos, negsuc, List, [], ◌∷◌, codes}
use Rattle.ag_value.specs.declared.value.Value.{Value}
use Rattle.ag_value.specs.declared.value.Value.TheVariants as value
use Rattle.ag_grammar.specs.declared.syntax.node.Node.{Node}
use Rattle.ag_grammar.specs.declared.syntax.node.Node.TheVariants as node
use Rattle.ag_grammar.specs.declared.syntax.node.Operator.TheVariants as operator
use Rattle.ag_grammar.specs.declared.syntax.node.UnaryCall.TheVariants as unary

-- the number n as a value
abbrev pub number : ℕ → Value
number n = value.Num (pos n)

-- the smallest number
abbrev pub least : ℤ
least = negsuc 9223372036854775807

-- `1 div 0`
abbrev pub by_zero : Node
by_zero = node.Chain (node.Literal (number 1)) ((operator.Divide, node.Literal (number 0)) ∷ [])

-- `let x = 1 div 0 in iserr(x)`
abbrev pub bound_error : Node
bound_error = node.Let by_zero (node.Unary unary.IsError (node.Bound 0))

-- `if 0 then 1 div 0 else 2`
abbrev pub other_branch : Node
other_branch = node.If (node.Literal (number 0)) by_zero (node.Literal (number 2))

-- the table `{"a": 1, "b": 2}`
abbrev pub two_keys : List (List ℕ × Value)
two_keys = (codes "a", number 1) ∷ (codes "b", number 2) ∷ []
