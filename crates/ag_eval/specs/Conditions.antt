-- The decision of a value as the condition of an `if`. All of this is this project's.
use Rattle.std.specs.Prelude.{zero, suc, pos, negsuc, Bool, true, false, Result, Ok, Err}
use Rattle.ag_value.specs.declared.value.ErrorCode.{ErrorCode}
use Rattle.ag_value.specs.declared.value.ErrorCode.TheVariants.{Kind}
use Rattle.ag_value.specs.declared.value.Value.{Value, out-Value}
use Rattle.ag_value.specs.declared.value.Value.TheOpen.{Value-F}

-- The decision of a value, from its outermost level. The decision of 0 is false, and that of any other number is true. The
-- decision of an error is `Err` of that error, and that of a text, a list or a table is `Err` of `kind`.
abbrev pub decision_at : Value-F Value → Result Bool ErrorCode
decision_at (Value-F.Num (pos zero)) = Ok false
decision_at (Value-F.Num (pos (suc n))) = Ok true
decision_at (Value-F.Num (negsuc n)) = Ok true
decision_at (Value-F.Fault code) = Err code
decision_at c = Err Kind

-- the decision of a value as a condition: true, false or an error
abbrev pub decision : Value → Result Bool ErrorCode
decision c = decision_at (out-Value c)
