-- The definition of a job: a grammar, the first line that is exactly `%%`, and a sentence. All of this is this project's.
use Rattle.std.specs.Prelude.{ℕ, ◌≡◌, ◌≤◌, ◌<◌, ◌⊎◌, List, [], ◌++◌, length, codes, Option}
use Rattle.std.specs.Option.{IfSome}
use Rattle.ag_job.specs.declared.fault.JobFault.{JobFault}
use Rattle.ag_job.specs.declared.fault.JobFault.TheVariants as fault
use Rattle.ag_job.specs.declared.reading.ReadFault.{ReadFault}
use Rattle.ag_job.specs.declared.reading.ReadFault.TheVariants as read
use Rattle.ag_job.specs.declared.job.TheConstants.{MAX_JOB_BYTES}

-- the maximal number of bytes of a job: 1,048,576 for the grammar, as many for the sentence, and 4 for the line `%%` with a CR
-- and an LF; only the sum is limited here
abbrev pub max_job_bytes : ℕ
max_job_bytes = MAX_JOB_BYTES

-- A text of whole lines: it is empty or ends with LF.
abbrev pub AreWholeLines : List ℕ → Type 0
AreWholeLines text = (text ≡ []) ⊎ ((prefix : List ℕ) × (text ≡ prefix ++ codes "\n"))

-- The separator is the line `%%` with its end: an LF, or a CR and an LF. If no byte comes after the separator (`rest` is empty),
-- it may also be `%%` without an end.
abbrev pub IsSeparator : (separator rest : List ℕ) → Type 0
IsSeparator separator rest =
    (separator ≡ codes "%%\n") ⊎ ((separator ≡ codes "%%\r\n") ⊎ ((separator ≡ codes "%%") × (rest ≡ [])))

-- The bytes are a text of whole lines, a line `%%`, and a sentence.
pub record IsCut (bytes text sentence : List ℕ) : Type 0 where
  pub lines : AreWholeLines text
  pub separator : List ℕ
  pub is_separator : IsSeparator separator sentence
  pub all : bytes ≡ text ++ (separator ++ sentence)

-- The parts of a job: the text before its first line `%%` (no other line `%%` has a shorter text before it), and the sentence
-- after it.
pub record AreParts (bytes text sentence : List ℕ) : Type 0 where
  pub cut : IsCut bytes text sentence
  pub first : (before following : List ℕ) → IsCut bytes before following → length text ≤ length before

-- There are at most `max_job_bytes` bytes, and `text` and `sentence` are their parts.
pub record IsJob (bytes text sentence : List ℕ) : Type 0 where
  pub within : length bytes ≤ max_job_bytes
  pub parts : AreParts bytes text sentence

-- A job that was read: the text of its grammar, and its sentence.
pub record JobTexts : Type 0 where
  pub grammar : List ℕ
  pub sentence : List ℕ

-- no line is exactly `%%`
abbrev pub HasNoSeparator : List ℕ → Type 0
HasNoSeparator bytes = (text sentence : List ℕ) → IsCut bytes text sentence → ⊥

-- What a fault says of the bytes of the reader, if they are known. J1: there are at most `max_job_bytes` of them, and no line is
-- exactly `%%`. J3: there are more than `max_job_bytes`. J2 and NoMemory say nothing of the bytes.
abbrev pub IsJobFault : Option (List ℕ) → JobFault → Type 0
IsJobFault known fault.NoSeparator = IfSome known (λ bytes. (length bytes ≤ max_job_bytes) × HasNoSeparator bytes)
IsJobFault known fault.Read = Unit {0}
IsJobFault known fault.TooLong = IfSome known (λ bytes. max_job_bytes < length bytes)
IsJobFault known fault.NoMemory = Unit {0}

-- the fault of a job whose bytes can't be read
abbrev pub job_fault_of : ReadFault → JobFault
job_fault_of read.Read = fault.Read
job_fault_of read.NoMemory = fault.NoMemory

-- A job has at most one grammar and one sentence.
abbrev pub OnePairOfParts : Type 0
OnePairOfParts = (bytes text sentence text' sentence' : List ℕ) → IsJob bytes text sentence → IsJob bytes text' sentence'
    → (text ≡ text') × (sentence ≡ sentence')
