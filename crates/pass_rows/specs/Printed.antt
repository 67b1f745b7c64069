-- How faults are printed. All definitions are this project's.
use Rattle.std.specs.Prelude.{ℕ, List, ◌++◌, codes, decimal}
use Rattle.pass_rows.specs.declared.run_fault.RunFault.{RunFault}
use Rattle.pass_rows.specs.declared.run_fault.RunFault.TheVariants as fault

-- A fault of a pass is printed as its number, R1 with the offset in decimal. A refusal of memory is printed as `NoMemory`.
abbrev pub printed : RunFault → List ℕ
printed (fault.Damaged at) = codes "R1 at " ++ decimal at
printed fault.TooDeep = codes "P2"
printed fault.TooManyNodes = codes "P3"
printed fault.Device = codes "D1"
printed fault.NoMemory = codes "NoMemory"
