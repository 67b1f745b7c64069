-- Texts that don't read as an expression without occurrences, and the meaning of their faults.
use Rattle.aggen.proofs.Common.{◌≡◌, ℕ, List, [], Some, None, inl, Value, expr_fault_of}
use Rattle.ag_expr.specs.declared.fault.ExprFault.{ExprFault}
use Rattle.ag_expr.specs.declared.fault.ExprFault.TheVariants.{Unexpected, NoMemory}
use Rattle.ag_grammar.specs.expressions.Expression.{Expression}
use Rattle.ag_expr.specs.language.Expression.{IsFaultOf, IsRefused, ReadsAsExpr}
use Rattle.ag_expr.proofs.language.Texts.{one_expression}
use Rattle.aggen.specs.Showing.{HasNoValue, HasValue, IsExplained, IsExprFault, IsUnexpectedAt, OccursAt, first_offset}

pub refused_none : (text : List ℕ) (e : ExprFault) → IsRefused text e → IsExprFault (expr_fault_of e) → HasNoValue text
refused_none text NoMemory none is = absurd is
refused_none text e none is = λ value has. none (record { tree = has.tree; occurrences = [] }) has.reads

-- if a fault of `read_expr` is one of X1 to X4, it is true of the text
pub explained : (text : List ℕ) (e : ExprFault) → IsRefused text e → IsFaultOf text e → IsExplained text (expr_fault_of e)
explained text NoMemory none is = tt
explained text (Unexpected at) none is = inl (none, is)
explained text e none is = (none, is)

-- for a text with occurrences the only fault of `read_expr` is NoMemory
pub wanted : (text : List ℕ) (e : ExprFault) (at : ℕ) → IsRefused text e → OccursAt text at → IsUnexpectedAt at (expr_fault_of e)
wanted text NoMemory at none occurs = tt
wanted text e at none occurs = absurd (none occurs.expr occurs.reads)

-- a text reads as one expression only, so its first occurrence is the one of `OccursAt`
pub same_offset : {text : List ℕ} {e : Expression} {at : ℕ} → ReadsAsExpr text e → OccursAt text at
    → first_offset e.occurrences ≡ Some at
same_offset {text} {e} reads occurs = rw (one_expression text e occurs.expr reads occurs.reads) occurs.offset

-- a text with occurrences has no value
pub no_value : {text : List ℕ} {at : ℕ} {is : Value} → OccursAt text at → HasValue text is → ⊥
no_value {at} occurs has = let none : None ≡ Some at = same_offset has.reads occurs in absurd cc
