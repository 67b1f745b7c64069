-- The printed form of faults: this project's.
use Rattle.std.specs.Prelude.{ℕ, List, ◌++◌, codes, decimal}
use Rattle.llparse.specs.declared.table.fault.TableFault.{TableFault}
use Rattle.llparse.specs.declared.table.fault.TableFault.TheVariants as table_fault
use Rattle.llparse.specs.declared.sentence.parse_fault.ParseFault.{ParseFault}
use Rattle.llparse.specs.declared.sentence.parse_fault.ParseFault.TheVariants as fault

-- the printed form of a fault of a grammar: its number, or `NoMemory`
abbrev pub printed_table : TableFault → List ℕ
printed_table (table_fault.Conflict symbol first second ahead) = codes "L1"
printed_table table_fault.NoMemory = codes "NoMemory"

-- the printed form of a fault of a sentence: its number, or `NoMemory`, and its offset in decimal if it has one
abbrev pub printed : ParseFault → List ℕ
printed (fault.Unexpected at) = codes "P1 at " ++ decimal at
printed fault.TooDeep = codes "P2"
printed fault.TooManyNodes = codes "P3"
printed fault.Device = codes "D1"
printed fault.NoMemory = codes "NoMemory"
