-- The meaning of a fault of the conversion of an old tree file. All of this is this project's.
use Rattle.std.specs.Prelude.{ℕ, Bool, List}
use Rattle.ag_grammar.specs.grammars.AttributeGrammar.{Grammar}
use Rattle.tree_upgrade.specs.upgrading.Upgrading.{IsUpgradeFault}
use Rattle.treefile.specs.devices.Device.{WhenHonest}
use Rattle.aggen.specs.PassFaults.{IsAboutFile}
use Rattle.ag_fault.specs.declared.fault.Fault.{Fault}
use Rattle.ag_fault.specs.declared.fault.Fault.TheVariants as fault

-- If `old` and `mid` are honest (ho, hm), R1 (with its offset), P2 and P3 are true of the content of `old`. A device failure and
-- NoMemory have no meaning, and no other fault is possible.
abbrev pub IsOldFileFault : Grammar → (honest_old honest_mid : Bool) → List ℕ → Fault → Type 0
IsOldFileFault g ho hm content (fault.Run f) = IsAboutFile f × WhenHonest ho (WhenHonest hm (IsUpgradeFault g content f))
IsOldFileFault g ho hm content fault.Device = Unit {0}
IsOldFileFault g ho hm content fault.NoMemory = Unit {0}
IsOldFileFault g ho hm content _ = ⊥
