-- The faults of a pass that say something about a file. This project's.
use Rattle.pass_rows.specs.declared.run_fault.RunFault.{RunFault}
use Rattle.pass_rows.specs.declared.run_fault.RunFault.TheVariants as run

-- R1, P2 and P3. A D1 or NoMemory of a pass is never inside the variant `Run` of `Fault`: `run_fault_of` of `ag_fault` replaces
-- them by the variants `Device` and `NoMemory` of `Fault`.
abbrev pub IsAboutFile : RunFault → Type 0
IsAboutFile (run.Damaged at) = Unit {0}
IsAboutFile run.TooDeep = Unit {0}
IsAboutFile run.TooManyNodes = Unit {0}
IsAboutFile run.Device = ⊥
IsAboutFile run.NoMemory = ⊥
