-- The faults of opening files. This project's.
use Rattle.ag_fault.specs.declared.fault.Fault.{Fault}
use Rattle.ag_fault.specs.declared.fault.Fault.TheVariants as fault

-- a file can't be opened or created (F1), or memory cannot be allocated
abbrev pub IsOpeningFault : Fault → Type 0
IsOpeningFault fault.File = Unit {0}
IsOpeningFault fault.NoMemory = Unit {0}
IsOpeningFault _ = ⊥
