-- The fault of this crate, a `Fault` or a `BuildFault`, for each fault of another crate, and the `Fault` for each `BuildFault`.
-- Four types are missing, whose conversions make only one fault: `FileFault`, `TextOutFault`, `NoMemory` and `AllocError`. This
-- project's.
use Rattle.ag_expr.specs.declared.fault.ExprFault.{ExprFault}
use Rattle.ag_expr.specs.declared.fault.ExprFault.TheVariants as expr
use Rattle.ag_job.specs.declared.fault.JobFault.{JobFault}
use Rattle.ag_job.specs.declared.fault.JobFault.TheVariants as job
use Rattle.ag_scan.specs.declared.fault.ScanFault.{ScanFault}
use Rattle.ag_scan.specs.declared.fault.ScanFault.TheVariants as scan
use Rattle.ag_text.specs.declared.fault.TextFault.{TextFault}
use Rattle.ag_text.specs.declared.fault.TextFault.TheVariants as text
use Rattle.agoutput.specs.declared.fault.ListingFault.{ListingFault}
use Rattle.agoutput.specs.declared.fault.ListingFault.TheVariants as listing
use Rattle.llparse.specs.declared.sentence.parse_fault.ParseFault.{ParseFault}
use Rattle.llparse.specs.declared.sentence.parse_fault.ParseFault.TheVariants as parse
use Rattle.llparse.specs.declared.table.fault.TableFault.{TableFault}
use Rattle.llparse.specs.declared.table.fault.TableFault.TheVariants as table
use Rattle.normalform.specs.declared.fault.NormalFault.{NormalFault}
use Rattle.normalform.specs.declared.fault.NormalFault.TheVariants as normal
use Rattle.pass_rows.specs.declared.run_fault.RunFault.{RunFault}
use Rattle.pass_rows.specs.declared.run_fault.RunFault.TheVariants as run
use Rattle.agoutput.specs.declared.out_fault.OutFault.{OutFault}
use Rattle.agoutput.specs.declared.out_fault.OutFault.TheVariants as out
use Rattle.treefile.specs.declared.device.DeviceFault.{DeviceFault}
use Rattle.treefile.specs.declared.device.DeviceFault.TheVariants as device
use Rattle.treefile.specs.declared.reading.FrameFault.{FrameFault}
use Rattle.treefile.specs.declared.reading.FrameFault.TheVariants as frame
use Rattle.ag_fault.specs.declared.build_fault.BuildFault.{BuildFault}
use Rattle.ag_fault.specs.declared.build_fault.BuildFault.TheVariants as build
use Rattle.ag_fault.specs.declared.fault.Fault.{Fault}
use Rattle.ag_fault.specs.declared.fault.Fault.TheVariants as fault

-- The faults of an expression, of scanning a sentence, and of a job: `NoMemory` becomes `NoMemory`, and any other fault is put
-- into the variant `Expr`, `Scan` or `Job`
abbrev pub expr_fault_of : ExprFault → Fault
expr_fault_of expr.NoMemory = fault.NoMemory
expr_fault_of e = fault.Expr e

abbrev pub scan_fault_of : ScanFault → Fault
scan_fault_of scan.NoMemory = fault.NoMemory
scan_fault_of e = fault.Scan e

abbrev pub job_fault_of : JobFault → Fault
job_fault_of job.NoMemory = fault.NoMemory
job_fault_of e = fault.Job e

-- the faults of parsing a sentence: `Device` becomes `Device`, `NoMemory` becomes `NoMemory`, and the others are put into `Parse`
abbrev pub parse_fault_of : ParseFault → Fault
parse_fault_of parse.Device = fault.Device
parse_fault_of parse.NoMemory = fault.NoMemory
parse_fault_of e = fault.Parse e

-- the faults of running passes and of converting a tree file; `Device` and `NoMemory` become what they become in `parse_fault_of`
abbrev pub run_fault_of : RunFault → Fault
run_fault_of run.Device = fault.Device
run_fault_of run.NoMemory = fault.NoMemory
run_fault_of e = fault.Run e

-- the faults of reading the root's text from the last tree file
abbrev pub out_fault_of : OutFault → Fault
out_fault_of (out.NoText x) = fault.NoText x
out_fault_of out.NotATreeFile = fault.NotATreeFile
out_fault_of (out.Damaged at) = fault.Damaged at
out_fault_of out.Device = fault.Device
out_fault_of out.NoMemory = fault.NoMemory

-- The faults of reading a grammar, of checking it, and of its look-ahead tables. (A1 has no definition here: `Translator::build`
-- and `certify_plan` of `aggen` make `build.Assign`.) Refused memory becomes `NoMemory`. A fault `text.Expr` could contain
-- `expr.NoMemory`, but no call returns such a fault.
abbrev pub build_fault_of_text : TextFault → BuildFault
build_fault_of_text text.NoMemory = build.NoMemory
build_fault_of_text e = build.Text e

abbrev pub build_fault_of_normal : NormalFault → BuildFault
build_fault_of_normal normal.NoMemory = build.NoMemory
build_fault_of_normal e = build.Normal e

abbrev pub build_fault_of_table : TableFault → BuildFault
build_fault_of_table table.NoMemory = build.NoMemory
build_fault_of_table e = build.Table e

-- the faults of building a translator
abbrev pub build_fault_of : BuildFault → Fault
build_fault_of (build.Text e) = fault.Text e
build_fault_of (build.Normal e) = fault.Normal e
build_fault_of (build.Table e) = fault.Table e
build_fault_of (build.Assign e) = fault.Assign e
build_fault_of build.NoMemory = fault.NoMemory

-- the faults of a device
abbrev pub device_fault_of : DeviceFault → Fault
device_fault_of device.Failed = fault.Device
device_fault_of device.NoMemory = fault.NoMemory

-- the faults of reading a tree file
abbrev pub frame_fault_of : FrameFault → Fault
frame_fault_of frame.NotATreeFile = fault.NotATreeFile
frame_fault_of (frame.Damaged at) = fault.Damaged at
frame_fault_of frame.Device = fault.Device
frame_fault_of frame.NoMemory = fault.NoMemory

-- the faults of writing a listing
abbrev pub listing_fault_of : ListingFault → Fault
listing_fault_of listing.Write = fault.Write
listing_fault_of listing.NoMemory = fault.NoMemory

-- the fault of a call that writes to a buffer in memory: O2 becomes `NoMemory`
abbrev pub fault_in_memory : Fault → Fault
fault_in_memory fault.Write = fault.NoMemory
fault_in_memory e = e
