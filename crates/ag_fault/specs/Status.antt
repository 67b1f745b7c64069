-- The exit status of the program for each fault. This project's.
use Rattle.std.specs.Prelude.{ℕ}
use Rattle.ag_expr.specs.declared.fault.ExprFault.TheVariants as expr
use Rattle.ag_job.specs.declared.fault.JobFault.TheVariants as job
use Rattle.ag_scan.specs.declared.fault.ScanFault.TheVariants as scan
use Rattle.ag_text.specs.declared.fault.TextFault.TheVariants as text
use Rattle.llparse.specs.declared.sentence.parse_fault.ParseFault.TheVariants as parse
use Rattle.llparse.specs.declared.table.fault.TableFault.TheVariants as table
use Rattle.normalform.specs.declared.fault.NormalFault.TheVariants as normal
use Rattle.pass_rows.specs.declared.run_fault.RunFault.TheVariants as run
use Rattle.ag_fault.specs.declared.fault.Fault.{Fault}
use Rattle.ag_fault.specs.declared.fault.Fault.TheVariants as fault

-- The exit status: 2 for usage, J1 and J3; 3 for X, G, N, L and A; 4 for S, and for P of a sentence; 5 for B1, B2 and R1, and for
-- P2 and P3 of a tree file; 6 for O1; 7 for NoMemory; 8 for F1, J2, D1 and O2. A letter alone means all its numbers. A fault that
-- contains NoMemory also has 7, and a fault that contains D1 also has 8.
abbrev pub status_of : Fault → ℕ
status_of fault.Usage = 2
status_of fault.File = 8
status_of (fault.Expr expr.NoMemory) = 7
status_of (fault.Expr e) = 3
status_of (fault.Text text.NoMemory) = 7
status_of (fault.Text (text.Expr expr.NoMemory)) = 7
status_of (fault.Text e) = 3
status_of (fault.Normal normal.NoMemory) = 7
status_of (fault.Normal e) = 3
status_of (fault.Table table.NoMemory) = 7
status_of (fault.Table e) = 3
status_of (fault.Assign e) = 3
status_of (fault.Scan scan.NoMemory) = 7
status_of (fault.Scan e) = 4
status_of (fault.Parse parse.Device) = 8
status_of (fault.Parse parse.NoMemory) = 7
status_of (fault.Parse e) = 4
status_of (fault.Run run.Device) = 8
status_of (fault.Run run.NoMemory) = 7
status_of (fault.Run e) = 5
status_of (fault.Job job.NoMemory) = 7
status_of (fault.Job job.Read) = 8
status_of (fault.Job e) = 2
status_of (fault.NoText x) = 6
status_of fault.NotATreeFile = 5
status_of (fault.Damaged at) = 5
status_of fault.Device = 8
status_of fault.Write = 8
status_of fault.NoMemory = 7
