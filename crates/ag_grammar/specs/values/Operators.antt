-- The values of the operators for two values. All definitions are this project's.
use Rattle.std.specs.Prelude.{◌+ℤ◌, ◌-ℤ◌, ◌*ℤ◌, int_lt, [], ◌∷◌, bytes_eq}
use Rattle.ag_value.specs.declared.value.ErrorCode.TheVariants.{Kind}
use Rattle.ag_value.specs.declared.value.Value.{Value, out-Value}
use Rattle.ag_value.specs.declared.value.Value.TheOpen.{Value-F}
use Rattle.ag_value.specs.declared.value.Value.TheVariants as value
use Rattle.ag_value.specs.Spelling.{spelling_of}
use Rattle.ag_value.specs.Well.{is_before}
use Rattle.ag_grammar.specs.declared.syntax.node.Operator.{Operator}
use Rattle.ag_grammar.specs.declared.syntax.node.Operator.TheVariants as operator
use Rattle.ag_value.specs.operations.Arguments.{strict, truth}
use Rattle.ag_value.specs.operations.Lists.{concatenation}
use Rattle.ag_value.specs.operations.Numbers.{number_value, of_numbers, quotient, remainder}

-- `a == b`, for values of any kinds: 1 if they are the same value, else 0. The spellings are compared, since different well
-- values have different ones.
abbrev pub comparison_result : Value → Value → Value
comparison_result left right = truth (bytes_eq (spelling_of left) (spelling_of right))

-- `a < b`, for two numbers or two texts, from their outermost levels: 1 if a is less, else 0; texts are compared by their bytes
abbrev pub ordered_at : Value-F Value → Value-F Value → Value
ordered_at (Value-F.Num m) (Value-F.Num n) = truth (int_lt m n)
ordered_at (Value-F.Text s) (Value-F.Text t) = truth (is_before s t)
ordered_at left right = value.Fault Kind

-- `a < b`, from the values
abbrev pub order_result : Value → Value → Value
order_result left right = ordered_at (out-Value left) (out-Value right)

-- the result of an operator for two values that are not errors
abbrev pub operator_result : Operator → Value → Value → Value
operator_result operator.Equal left right = comparison_result left right
operator_result operator.Less left right = order_result left right
operator_result operator.Join left right = concatenation left right
operator_result operator.Add left right = of_numbers (λ m n. number_value (m +ℤ n)) left right
operator_result operator.Subtract left right = of_numbers (λ m n. number_value (m -ℤ n)) left right
operator_result operator.Multiply left right = of_numbers (λ m n. number_value (m *ℤ n)) left right
operator_result operator.Divide left right = of_numbers quotient left right
operator_result operator.Remainder left right = of_numbers remainder left right

-- the result of an operator for any two values: the leftmost error among them, if there is one, else the operator's result
abbrev pub operation_result : Operator → Value → Value → Value
operation_result o left right = strict (left ∷ right ∷ []) (operator_result o left right)
