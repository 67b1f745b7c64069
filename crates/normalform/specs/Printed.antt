-- The printed form of faults: this project's.
use Rattle.std.specs.Prelude.{ℕ, List, ◌++◌, codes, decimal}
use Rattle.normalform.specs.declared.fault.NormalFault.{NormalFault}
use Rattle.normalform.specs.declared.fault.NormalFault.TheVariants as fault

-- the printed form of a fault: its number, or `NoMemory`, and its offset in decimal if it has one
abbrev pub printed : NormalFault → List ℕ
printed (fault.UnknownName at) = codes "N1 at " ++ decimal at
printed (fault.DoubledName at) = codes "N2 at " ++ decimal at
printed fault.BadStart = codes "N3"
printed (fault.Unproductive symbol) = codes "N4 at " ++ decimal symbol.at
printed (fault.Unreachable symbol) = codes "N5 at " ++ decimal symbol.at
printed (fault.RuleMissing production place attr) = codes "N6"
printed (fault.RuleDoubled at) = codes "N7 at " ++ decimal at
printed (fault.NotDefinedHere at) = codes "N8 at " ++ decimal at
printed (fault.NotNormal at) = codes "N9 at " ++ decimal at
printed (fault.Limit kind) = codes "N10"
printed fault.NoMemory = codes "NoMemory"
