-- The values of operands during the evaluation of an expression. All of this is this project's.
use Rattle.std.specs.Prelude.{ℕ, ◌≡◌, ◌<◌, Bool, true, false, List, length, map, slice_get}
use Rattle.ag_value.specs.declared.value.Value.{Value}
use Rattle.ag_value.specs.declared.value.Value.TheVariants as value
use Rattle.ag_eval.specs.declared.environment.Loan.{Loan}
use Rattle.ag_eval.specs.declared.environment.Loan.TheVariants as loan
use Rattle.ag_eval.specs.declared.operand.Held.{Held}
use Rattle.ag_eval.specs.declared.operand.Held.TheVariants as held
use Rattle.ag_eval.specs.declared.operand.Operand.{Operand}
use Rattle.ag_eval.specs.declared.operand.Operand.TheVariants as operand
use Rattle.ag_eval.specs.declared.scalar.Scalar.{Scalar}
use Rattle.ag_eval.specs.declared.scalar.Scalar.TheVariants as scalar
use Rattle.ag_eval.specs.declared.value_ref.Plain.{Plain}
use Rattle.ag_eval.specs.declared.value_ref.Plain.TheVariants as plain
use Rattle.ag_eval.specs.declared.value_ref.ValueRef.{ValueRef}
use Rattle.ag_eval.specs.declared.value_ref.ValueRef.TheVariants as reference
use Rattle.ag_grammar.specs.declared.syntax.node.Node.{Node}
use Rattle.ag_grammar.specs.expressions.Evaluation.{bound_value}
use Rattle.ag_grammar.specs.expressions.Trees.{each_holds, is_within}

-- the scalar as a value
abbrev pub scalar_value : Scalar → Value
scalar_value (scalar.Number n) = value.Num n
scalar_value (scalar.Fault code) = value.Fault code

-- the value that an environment lends
abbrev pub loan_value : Loan → Value
loan_value (loan.Value v) = v.now
loan_value (loan.Carried c) = c.now

-- the value of a `ValueRef`
abbrev pub ref_value : ValueRef → Value
ref_value (reference.Plain v) = v.now
ref_value (reference.Shared text) = value.Text text.now
ref_value (reference.Table table) = value.Table table.now
ref_value (reference.List list) = value.List list.now

-- the value of a `Plain`, lent or copied
abbrev pub plain_value : Plain → Value
plain_value (plain.Lent v) = v
plain_value (plain.Copied v) = v

-- the value of a `Held`: definitions see a shared text as its bytes, a `TableTree` as its pairs, and a `ListTree` as its items
abbrev pub held_value : Held → Value
held_value (held.Lent v) = v
held_value (held.Owned v) = v
held_value (held.Shared text) = value.Text text
held_value (held.LentTable table) = value.Table table.now
held_value (held.Table table) = value.Table table
held_value (held.LentList list) = value.List list.now
held_value (held.List list) = value.List list

-- whether the value of a `Held` is lent
abbrev pub is_lent : Held → Bool
is_lent (held.Lent v) = true
is_lent (held.Owned v) = false
is_lent (held.Shared text) = false
is_lent (held.LentTable table) = true
is_lent (held.Table table) = false
is_lent (held.LentList list) = true
is_lent (held.List list) = false

-- the value of an operand, where `bound` has the values of the bindings, the outermost first
abbrev pub operand_value : List Value → Operand → Value
operand_value bound (operand.Held h) = held_value h
operand_value bound (operand.Bound k) = bound_value (slice_get bound k)

-- `bound` has the values of the bindings. The value of the operand `result` is the result of the function f for the values of the
-- operands `first` and `second`.
abbrev pub Gives : List Value → (Value → Value → Value) → (first second : Operand) → Operand → Type 0
Gives bound f first second result = operand_value bound result ≡ f (operand_value bound first) (operand_value bound second)

-- the number of a bound operand is that of a binding, where `bound` has the values of the bindings
abbrev pub IsIn : List Value → Operand → Type 0
IsIn bound (operand.Held h) = Unit {0}
IsIn bound (operand.Bound k) = k < length bound

-- `each_within n bound items`, where `bound` is the number of names that are bound around a list, and `items` has the list's
-- items: in every item, the number of each occurrence is below n, and each bound name refers to one of the names that are bound
-- around it.
abbrev pub each_within : ℕ → ℕ → List Node → Bool
each_within n bound items = each_holds bound (map (is_within n) items)
