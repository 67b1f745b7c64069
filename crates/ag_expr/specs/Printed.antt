-- The formatting of faults. All definitions are this project's.
use Rattle.std.specs.Prelude.{ℕ, List, ◌++◌, codes, decimal}
use Rattle.ag_expr.specs.declared.fault.ExprFault.{ExprFault}
use Rattle.ag_expr.specs.declared.fault.ExprFault.TheVariants as fault

-- the text of a fault: its number, and the offset in decimal; or `NoMemory`
abbrev pub printed : ExprFault → List ℕ
printed (fault.NoToken at) = codes "X1 at " ++ decimal at
printed (fault.Unexpected at) = codes "X2 at " ++ decimal at
printed (fault.NumberTooLarge at) = codes "X3 at " ++ decimal at
printed (fault.TooDeep at) = codes "X4 at " ++ decimal at
printed fault.NoMemory = codes "NoMemory"
