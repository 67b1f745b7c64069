-- The printed lines of the faults of a job. This project's.
use Rattle.std.specs.Prelude.{ℕ, List, codes}
use Rattle.ag_job.specs.declared.fault.JobFault.{JobFault}
use Rattle.ag_job.specs.declared.fault.JobFault.TheVariants as fault

-- the fault's number or `NoMemory`, what is wrong, and for J1 and J3 what to do
abbrev pub printed : JobFault → List ℕ
printed fault.NoSeparator = codes "J1 no line is exactly `%%`, write one between the grammar and the sentence"
printed fault.Read = codes "J2 standard input can't be read"
printed fault.TooLong =
    codes "J3 the job has more than 2,097,156 bytes, put the grammar and the sentence into files and use `aggen run`"
printed fault.NoMemory = codes "NoMemory a request for memory was refused"
