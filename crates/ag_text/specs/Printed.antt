-- The formatting of faults (this project's).
use Rattle.std.specs.Prelude.{ℕ, List, ◌++◌, codes, decimal}
use Rattle.ag_expr.specs.Printed.{printed as printed_expr}
use Rattle.ag_text.specs.declared.fault.TextFault.{TextFault}
use Rattle.ag_text.specs.declared.fault.TextFault.TheVariants as fault

-- The text of a fault: its number, and its offset in decimal if it has one. The line of a G2 is not printed. G3 is printed with
-- the text of the expression's fault. `NoMemory` is printed as this name.
abbrev pub printed : TextFault → List ℕ
printed (fault.BadUtf8 at) = codes "G1 at " ++ decimal at
printed (fault.Unexpected line at) = codes "G2 at " ++ decimal at
printed (fault.Expr f) = codes "G3 " ++ printed_expr f
printed fault.TooLong = codes "G4"
printed fault.NoMemory = codes "NoMemory"
