-- The values of the calls and of `if` for given values of their arguments. All definitions are this
-- project's.
use Rattle.std.specs.Prelude.{zero, suc, pos, negsuc, [], ◌∷◌}
use Rattle.ag_value.specs.declared.value.ErrorCode.TheVariants.{Kind}
use Rattle.ag_value.specs.declared.value.Value.{Value, out-Value}
use Rattle.ag_value.specs.declared.value.Value.TheOpen.{Value-F}
use Rattle.ag_value.specs.declared.value.Value.TheVariants as value
use Rattle.ag_grammar.specs.declared.syntax.node.BinaryCall.{BinaryCall}
use Rattle.ag_grammar.specs.declared.syntax.node.BinaryCall.TheVariants as binary
use Rattle.ag_grammar.specs.declared.syntax.node.UnaryCall.{UnaryCall}
use Rattle.ag_grammar.specs.declared.syntax.node.UnaryCall.TheVariants as unary
use Rattle.ag_value.specs.operations.Arguments.{or_else, strict, iserr_result}
use Rattle.ag_value.specs.operations.Lists.{append_result, length_of, nth_of}
use Rattle.ag_value.specs.operations.Numbers.{decimal_of, number_of}
use Rattle.ag_value.specs.operations.Tables.{get_result, has_result, keys_of, put_result}
use Rattle.ag_value.specs.operations.Texts.{join_result}

-- the value of a call with one argument
abbrev pub unary_call_result : UnaryCall → Value → Value
unary_call_result unary.Len a = strict (a ∷ []) (length_of a)
unary_call_result unary.Text n = strict (n ∷ []) (decimal_of n)
unary_call_result unary.Number t = strict (t ∷ []) (number_of t)
unary_call_result unary.Keys t = strict (t ∷ []) (keys_of t)
unary_call_result unary.IsError v = iserr_result v

-- the value of a call with two arguments
abbrev pub binary_call_result : BinaryCall → Value → Value → Value
binary_call_result binary.Nth l i = strict (l ∷ i ∷ []) (nth_of l i)
binary_call_result binary.Append l v = strict (l ∷ v ∷ []) (append_result l v)
binary_call_result binary.Join l s = strict (l ∷ s ∷ []) (join_result l s)
binary_call_result binary.Get t k = strict (t ∷ k ∷ []) (get_result t k)
binary_call_result binary.Has t k = strict (t ∷ k ∷ []) (has_result t k)
binary_call_result binary.OrElse v w = or_else v w

-- `put(t, k, v)`
abbrev pub put : Value → Value → Value → Value
put t k v = strict (t ∷ k ∷ v ∷ []) (put_result t k v)

-- `if c then e else f`: f if c is 0, e if c is another number, c if c is an error, and else the error `kind`
abbrev pub chosen_at : Value-F Value → Value → Value → Value
chosen_at (Value-F.Num (pos zero)) e f = f
chosen_at (Value-F.Num (pos (suc n))) e f = e
chosen_at (Value-F.Num (negsuc n)) e f = e
chosen_at (Value-F.Fault code) e f = value.Fault code
chosen_at c e f = value.Fault Kind

-- the same, from the value c and not only its outermost level
abbrev pub choice_of : Value → Value → Value → Value
choice_of c e f = chosen_at (out-Value c) e f
