-- The meaning of a fault of the conversion of an old file, by the program's faults.
use Rattle.aggen.proofs.Common
use Common.{ℕ, List, Bool, Grammar, IsUpgradeFault, RunFault, WhenHonest, run_fault_of}
use Common.run
use Rattle.aggen.specs.Upgrading.{IsOldFileFault}

pub old_fault : (g : Grammar) (ho hm : Bool) (content : List ℕ) (f : RunFault)
    → WhenHonest ho (WhenHonest hm (IsUpgradeFault g content f)) → IsOldFileFault g ho hm content (run_fault_of f)
old_fault g ho hm content run.Device exact = tt
old_fault g ho hm content run.NoMemory exact = tt
old_fault g ho hm content f exact = (tt, exact)
