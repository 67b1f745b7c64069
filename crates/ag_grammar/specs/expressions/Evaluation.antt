-- The value of an expression. All definitions are this project's.
use Rattle.std.specs.Prelude.{ℕ, ◌<◌, List, [], ◌∷◌, ◌++◌, Option, Some, None, slice_get}
use Rattle.ag_value.specs.declared.value.ErrorCode.TheVariants.{Kind}
use Rattle.ag_value.specs.declared.value.Value.{Value}
use Rattle.ag_value.specs.declared.value.Value.TheVariants as value
use Rattle.ag_value.specs.Well.{IsWell}
use Rattle.ag_grammar.specs.declared.syntax.node.Operator.{Operator}
use Rattle.ag_grammar.specs.declared.syntax.node.Node.{Node}
use Rattle.ag_grammar.specs.declared.syntax.node.Node.TheFolds.{fold-Node}
use Rattle.ag_grammar.specs.declared.syntax.node.Node.TheOpen.{Node-F}
use Rattle.ag_grammar.specs.values.Calls.{unary_call_result, binary_call_result, choice_of, put}
use Rattle.ag_value.specs.operations.Fitting.{fit}
use Rattle.ag_value.specs.operations.Lists.{listed}
use Rattle.ag_grammar.specs.values.Operators.{operation_result}

-- the value of a tree, as a function of the values of its occurrences and of the names bound around it, the
-- outermost first
abbrev pub Meaning : Type 0
Meaning = (ℕ → Value) → List Value → Value

-- the value of a chain, left-associative: the left argument of each step is the value so far
abbrev pub chain_value : (ℕ → Value) → List Value → Value → List (Operator × Meaning) → Value
chain_value env bound so_far [] = so_far
chain_value env bound so_far (x ∷ xs) = chain_value env bound (operation_result x.0 so_far (x.1 env bound)) xs

-- the values of the items of a list
abbrev pub item_values : (ℕ → Value) → List Value → List Meaning → List Value
item_values env bound [] = []
item_values env bound (x ∷ xs) = x env bound ∷ item_values env bound xs

-- the value of a bound name; the error `kind` for a name that is not bound, which the tree of an `Expr` does not contain
abbrev pub bound_value : Option Value → Value
bound_value (Some v) = v
bound_value None = value.Fault Kind

-- The value of one level of a tree, with the meaning of each operand in its place. A text literal may be too heavy, so `fit`
-- checks it. In the body of a `let` the name has the value of its definition, which may be an error.
abbrev pub value_step : Node-F Meaning → Meaning
value_step (Node-F.Literal v) env bound = fit v
value_step (Node-F.Occurrence k) env bound = env k
value_step (Node-F.Bound k) env bound = bound_value (slice_get bound k)
value_step (Node-F.Chain first others) env bound = chain_value env bound (first env bound) others
value_step (Node-F.Let e f) env bound = f env (bound ++ e env bound ∷ [])
value_step (Node-F.If c e f) env bound = choice_of (c env bound) (e env bound) (f env bound)
value_step (Node-F.Unary call a) env bound = unary_call_result call (a env bound)
value_step (Node-F.Binary call a b) env bound = binary_call_result call (a env bound) (b env bound)
value_step (Node-F.Put t k v) env bound = put (t env bound) (k env bound) (v env bound)
value_step (Node-F.List items) env bound = listed (item_values env bound items)
value_step Node-F.EmptyTable env bound = value.Table []

-- the value of a tree, where `env` has the values of its occurrences, and `bound` those of the names bound
-- around it
abbrev pub value_in : Node → Meaning
value_in = fold-Node Meaning value_step

-- the value of a whole expression, with no name bound around it
abbrev pub value_of : Node → (ℕ → Value) → Value
value_of e env = value_in e env []

-- the values that an environment gives to the occurrences 0 to n - 1 are well
pub record AreWell (n : ℕ) (env : ℕ → Value) : Type 0 where
  pub well : (k : ℕ) → k < n → IsWell (env k)
