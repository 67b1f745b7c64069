-- The number and the message of a report, each apart: the line of the report without what a reader that is a program has in other
-- fields. This project's.
use Rattle.std.specs.Prelude.{ℕ, List, [], ◌++◌, ◌==◌, Bool, true, false, cond, if◌then◌else◌, codes, length, string_bytes}
use Rattle.std.specs.List.{after_first, before_first}
use Rattle.ag_fault.specs.Printed.{printed}
use Rattle.ag_fault.specs.declared.fault.Fault.{Fault}
use Rattle.ag_fault.specs.declared.fault.Fault.TheVariants as fault
use Rattle.messages.specs.Printed.{file_text, next_separator, part_text}
use Rattle.messages.specs.declared.report.FaultReport.{FaultReport}

-- of a printed fault: the word before the first space, and what follows that space
abbrev pub number_in : List ℕ → List ℕ
number_in printed = before_first (λ b. b == 32) printed

abbrev pub words_in : List ℕ → List ℕ
words_in printed = after_first (λ b. b == 32) printed

-- the number of a fault, such as `N8`, or `NoMemory`
abbrev pub number_of : Fault → List ℕ
number_of e = number_in (printed e)

-- whether a fault prints words after its number: what is wrong, or the attributes of A1
abbrev pub has_words : Fault → Bool
has_words (fault.Expr e) = false
has_words (fault.Text e) = false
has_words (fault.Normal e) = false
has_words (fault.Table e) = false
has_words (fault.Scan e) = false
has_words (fault.Parse e) = false
has_words (fault.Run e) = false
has_words (fault.Job e) = false
has_words (fault.Damaged at) = false
has_words e = true

abbrev pub words_of : Fault → (printed : List ℕ) → List ℕ
words_of e printed = cond (has_words e) (words_in printed) []

-- the separator after the words, if there are any
abbrev pub after_words : List ℕ → List ℕ
after_words words = if length words == 0 then [] else codes ": "

-- the words of the fault, what was expected and what was found, with separators between, and the file if there is no position
abbrev pub message_of : FaultReport → List ℕ
message_of report =
    let words = words_of report.fault (printed report.fault) in
    let first = after_words words in
    words ++ part_text first (string_bytes report.parts.expected)
    ++ part_text (next_separator first (string_bytes report.parts.expected)) (string_bytes report.parts.found)
    ++ file_text report.location report.file
