-- The number of each fault, and its offset in the input in bytes, from 0. This project's.
use Rattle.std.specs.Prelude.{ℕ}
use Rattle.ag_expr.specs.declared.fault.ExprFault.{ExprFault}
use Rattle.ag_expr.specs.declared.fault.ExprFault.TheVariants as expr
use Rattle.ag_job.specs.declared.fault.JobFault.{JobFault}
use Rattle.ag_job.specs.declared.fault.JobFault.TheVariants as job
use Rattle.ag_scan.specs.declared.fault.ScanFault.{ScanFault}
use Rattle.ag_scan.specs.declared.fault.ScanFault.TheVariants as scan
use Rattle.ag_text.specs.declared.fault.TextFault.{TextFault}
use Rattle.ag_text.specs.declared.fault.TextFault.TheVariants as text
use Rattle.llparse.specs.declared.sentence.parse_fault.ParseFault.{ParseFault}
use Rattle.llparse.specs.declared.sentence.parse_fault.ParseFault.TheVariants as parse
use Rattle.llparse.specs.declared.table.fault.TableFault.{TableFault}
use Rattle.llparse.specs.declared.table.fault.TableFault.TheVariants as table
use Rattle.normalform.specs.declared.fault.NormalFault.{NormalFault}
use Rattle.normalform.specs.declared.fault.NormalFault.TheVariants as normal
use Rattle.pass_rows.specs.declared.run_fault.RunFault.{RunFault}
use Rattle.pass_rows.specs.declared.run_fault.RunFault.TheVariants as run
use Rattle.ag_fault.specs.declared.fault.Fault.{Fault}
use Rattle.ag_fault.specs.declared.fault.Fault.TheVariants as fault
use Rattle.aggen_c.specs.declared.number.Number.{Number}

-- a number: the ASCII code of its letter, and the index that follows the letter
abbrev pub numbered : ℕ → ℕ → Number
numbered letter index = record { letter = letter; index = index }

-- the number of a fault that has none: NoMemory, or a misused command line
abbrev pub unnumbered : Number
unnumbered = numbered 0 0

-- X1 to X4
abbrev pub expr_number : ExprFault → Number
expr_number (expr.NoToken at) = numbered 88 1
expr_number (expr.Unexpected at) = numbered 88 2
expr_number (expr.NumberTooLarge at) = numbered 88 3
expr_number (expr.TooDeep at) = numbered 88 4
expr_number expr.NoMemory = unnumbered

-- G1 to G4
abbrev pub text_number : TextFault → Number
text_number (text.BadUtf8 at) = numbered 71 1
text_number (text.Unexpected line at) = numbered 71 2
text_number (text.Expr e) = numbered 71 3
text_number text.TooLong = numbered 71 4
text_number text.NoMemory = unnumbered

-- N1 to N10
abbrev pub normal_number : NormalFault → Number
normal_number (normal.UnknownName at) = numbered 78 1
normal_number (normal.DoubledName at) = numbered 78 2
normal_number normal.BadStart = numbered 78 3
normal_number (normal.Unproductive symbol) = numbered 78 4
normal_number (normal.Unreachable symbol) = numbered 78 5
normal_number (normal.RuleMissing production place attr) = numbered 78 6
normal_number (normal.RuleDoubled at) = numbered 78 7
normal_number (normal.NotDefinedHere at) = numbered 78 8
normal_number (normal.NotNormal at) = numbered 78 9
normal_number (normal.Limit kind) = numbered 78 10
normal_number normal.NoMemory = unnumbered

-- L1
abbrev pub table_number : TableFault → Number
table_number (table.Conflict symbol first second ahead) = numbered 76 1
table_number table.NoMemory = unnumbered

-- S1 to S4
abbrev pub scan_number : ScanFault → Number
scan_number (scan.BadUtf8 at) = numbered 83 1
scan_number (scan.NoToken at) = numbered 83 2
scan_number (scan.LongToken at) = numbered 83 3
scan_number scan.TooLong = numbered 83 4
scan_number scan.NoMemory = unnumbered

-- P1 to P3, and D1
abbrev pub parse_number : ParseFault → Number
parse_number (parse.Unexpected at) = numbered 80 1
parse_number parse.TooDeep = numbered 80 2
parse_number parse.TooManyNodes = numbered 80 3
parse_number parse.Device = numbered 68 1
parse_number parse.NoMemory = unnumbered

-- R1, P2 and P3 of a file, and D1
abbrev pub run_number : RunFault → Number
run_number (run.Damaged at) = numbered 82 1
run_number run.TooDeep = numbered 80 2
run_number run.TooManyNodes = numbered 80 3
run_number run.Device = numbered 68 1
run_number run.NoMemory = unnumbered

-- J1 to J3
abbrev pub job_number : JobFault → Number
job_number job.NoSeparator = numbered 74 1
job_number job.Read = numbered 74 2
job_number job.TooLong = numbered 74 3
job_number job.NoMemory = unnumbered

-- the number of a fault; `unnumbered` for NoMemory and for a misused command line
abbrev pub number_of : Fault → Number
number_of fault.Usage = unnumbered
number_of fault.File = numbered 70 1
number_of (fault.Expr e) = expr_number e
number_of (fault.Text e) = text_number e
number_of (fault.Normal e) = normal_number e
number_of (fault.Table e) = table_number e
number_of (fault.Assign e) = numbered 65 1
number_of (fault.Scan e) = scan_number e
number_of (fault.Parse e) = parse_number e
number_of (fault.Run e) = run_number e
number_of (fault.Job e) = job_number e
number_of (fault.NoText x) = numbered 79 1
number_of fault.NotATreeFile = numbered 66 1
number_of (fault.Damaged at) = numbered 66 2
number_of fault.Device = numbered 68 1
number_of fault.Write = numbered 79 2
number_of fault.NoMemory = unnumbered

-- the offset of a fault that has none: the greatest number of 64 bits
abbrev pub no_offset : ℕ
no_offset = 18446744073709551615

-- the offset of X1 to X4, which is also that of G3
abbrev pub expr_offset : ExprFault → ℕ
expr_offset (expr.NoToken at) = at
expr_offset (expr.Unexpected at) = at
expr_offset (expr.NumberTooLarge at) = at
expr_offset (expr.TooDeep at) = at
expr_offset expr.NoMemory = no_offset

-- the offset of G1 to G3
abbrev pub text_offset : TextFault → ℕ
text_offset (text.BadUtf8 at) = at
text_offset (text.Unexpected line at) = at
text_offset (text.Expr e) = expr_offset e
text_offset text.TooLong = no_offset
text_offset text.NoMemory = no_offset

-- the offset of a fault of a grammar: N3, N6 and N10 have none
abbrev pub normal_offset : NormalFault → ℕ
normal_offset (normal.UnknownName at) = at
normal_offset (normal.DoubledName at) = at
normal_offset normal.BadStart = no_offset
normal_offset (normal.Unproductive symbol) = symbol.at
normal_offset (normal.Unreachable symbol) = symbol.at
normal_offset (normal.RuleMissing production place attr) = no_offset
normal_offset (normal.RuleDoubled at) = at
normal_offset (normal.NotDefinedHere at) = at
normal_offset (normal.NotNormal at) = at
normal_offset (normal.Limit kind) = no_offset
normal_offset normal.NoMemory = no_offset

-- the offset of S1 to S3
abbrev pub scan_offset : ScanFault → ℕ
scan_offset (scan.BadUtf8 at) = at
scan_offset (scan.NoToken at) = at
scan_offset (scan.LongToken at) = at
scan_offset scan.TooLong = no_offset
scan_offset scan.NoMemory = no_offset

-- the offset of a fault, in bytes from 0; `no_offset` if it has none
abbrev pub offset_of : Fault → ℕ
offset_of (fault.Expr e) = expr_offset e
offset_of (fault.Text e) = text_offset e
offset_of (fault.Normal e) = normal_offset e
offset_of (fault.Scan e) = scan_offset e
offset_of (fault.Parse (parse.Unexpected at)) = at
offset_of (fault.Run (run.Damaged at)) = at
offset_of (fault.Damaged at) = at
offset_of _ = no_offset
