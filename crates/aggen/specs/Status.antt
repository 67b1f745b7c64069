-- The possible faults of reading a file or a reader (`source_of`, `bytes_of`). This project's.
use Rattle.ag_fault.specs.declared.fault.Fault.{Fault}
use Rattle.ag_fault.specs.declared.fault.Fault.TheVariants as fault

-- a file can't be opened, a file or a reader can't be read, or memory was refused
abbrev pub IsSourceFault : Fault → Type 0
IsSourceFault fault.File = Unit {0}
IsSourceFault fault.NoMemory = Unit {0}
IsSourceFault _ = ⊥
