-- The contract of the parser's functions (this project's).
use Rattle.std.specs.Prelude.{◌≡◌, ◌≢◌, Result, Ok, Err}
use Rattle.ag_expr.specs.declared.fault.ExprFault.{ExprFault}
use Rattle.ag_expr.specs.declared.fault.ExprFault.TheVariants as fault
use Rattle.ag_tokens.specs.PlacedToken.{Input}
use Rattle.ag_text.specs.Reading.{Parser}
use Rattle.ag_text.specs.declared.stop.Stop.{Stop}
use Rattle.ag_text.specs.declared.stop.Stop.TheVariants as stop

-- The result is that of the specification's parser `read` for the input `old`, with the same remaining input, `new`; or the fault
-- is that of `read`, unless memory ran out.
abbrev pub Reads : {X : Type 0} → Parser X → Input → Result X Stop → Input → Type 0
Reads read old (Ok x) new = read old ≡ Ok (x, new)
Reads read old (Err e) new = e ≢ stop.NoMemory → read old ≡ Err e

-- the fault of the grammar's parser for a fault of an expression
abbrev pub stop_of : ExprFault → Stop
stop_of fault.NoMemory = stop.NoMemory
stop_of f = stop.InExpr f
