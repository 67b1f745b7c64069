-- The formatting of faults (this project's).
use Rattle.std.specs.Prelude.{ℕ, List, ◌++◌, codes, decimal}
use Rattle.ag_scan.specs.declared.fault.ScanFault.{ScanFault}
use Rattle.ag_scan.specs.declared.fault.ScanFault.TheVariants as fault

-- the text of a fault: its number, and its offset in decimal if it has one; or `NoMemory`
abbrev pub printed : ScanFault → List ℕ
printed (fault.BadUtf8 at) = codes "S1 at " ++ decimal at
printed (fault.NoToken at) = codes "S2 at " ++ decimal at
printed (fault.LongToken at) = codes "S3 at " ++ decimal at
printed fault.TooLong = codes "S4"
printed fault.NoMemory = codes "NoMemory"
