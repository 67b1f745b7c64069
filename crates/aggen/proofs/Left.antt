-- The contents of the devices after a call, also after a fault.
use Rattle.aggen.proofs.Common
use Common.{ℕ, Bool, List, length, arith, IsAccepted, Grammar, direction_of, IsTreeOf, Tree}
use Common.{OutFault, IsFirstFile, no_passes, bodies_of, file, version_two, BeginsFile, DeviceFault}
use Common.{unassigned_from_one, file_fits, texts_are_given, IsParseFault, build_fault_of, device_fault_of}
use Common.{job_fault_of, out_fault_of, BuildFault, Fault}
use Rattle.std.proofs.Math.Seq.{take-length}
use Rattle.ag_job.specs.declared.fault.JobFault.{JobFault}
use Rattle.treefile.specs.records.Orders.{postfix}
use Rattle.tree_upgrade.proofs.upgrades.Upgraded.{room}
use Rattle.aggen.specs.Evaluating.{IsTreeFaultBeforeText}
use Rattle.aggen.specs.Translating.{IsAfterPasses, IsFaultBeforeText}

-- a content that is the file of pass 0 of a tree is also a prefix of a file of pass 0, of itself
pub first_begins : {g : Grammar} {t : Tree} {content : List ℕ} → IsAccepted g → IsTreeOf g t → IsFirstFile version_two g t content
    → BeginsFile 0 content
first_begins {g} {t} {content} accepted tree is =
    let texts = texts_are_given g t in
    let first = is no_passes texts.0 unassigned_from_one texts.1 in
    let bodies = postfix (direction_of 0) (bodies_of version_two g no_passes 0 t texts.0) in
    record {
      bodies = bodies;
      sound = file_fits version_two g no_passes 0 t texts.0 content (room g accepted) tree first;
      prefix = (length (file version_two 0 bodies), cc (first.occurs, take-length (file version_two 0 bodies)));
    }

-- faults of a device, the root's text, a job and `build` are not P
pub no_parse_of_device : (f : DeviceFault) → IsParseFault (device_fault_of f) → ⊥
no_parse_of_device f is = grind arith

pub no_parse_of_text : (f : OutFault) → IsParseFault (out_fault_of f) → ⊥
no_parse_of_text f is = grind arith

pub no_parse_of_job : (f : JobFault) → IsParseFault (job_fault_of f) → ⊥
no_parse_of_job f is = grind arith

pub no_parse_of_build : (f : BuildFault) → IsParseFault (build_fault_of f) → ⊥
no_parse_of_build f is = grind arith

-- faults that come before all passes ran are not O1 or O2
pub none_after_files : (g : Grammar) (sentence : List ℕ) (ha hb : Bool) (f : Fault) → IsFaultBeforeText g sentence ha hb f
    → IsAfterPasses f → ⊥
none_after_files g sentence ha hb f exact is = grind arith

pub none_after_passes : (g : Grammar) (ht ha hb : Bool) (content : List ℕ) (f : Fault)
    → IsTreeFaultBeforeText g ht ha hb content f → IsAfterPasses f → ⊥
none_after_passes g ht ha hb content f exact is = grind arith

pub none_after_job : (f : JobFault) → IsAfterPasses (job_fault_of f) → ⊥
none_after_job f is = grind arith

pub none_after_build : (f : BuildFault) → IsAfterPasses (build_fault_of f) → ⊥
none_after_build f is = grind arith
