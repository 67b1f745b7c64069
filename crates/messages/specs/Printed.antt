-- How a report is printed: one line, which begins with the number of the fault, or with `usage` or `NoMemory`. This project's.
use Rattle.std.specs.Prelude.{ℕ, List, [], ◌++◌, ◌==◌, Option, Some, None, String, if◌then◌else◌, codes, decimal, length}
use Rattle.std.specs.Prelude.{string_bytes}
use Rattle.std.specs.declared.alloc.Global.{Global}
use Rattle.ag_fault.specs.Printed.{printed}
use Rattle.message_parts.specs.Printed.{position_text}
use Rattle.message_parts.specs.declared.parts.Location.{Location}
use Rattle.message_parts.specs.declared.parts.Location.TheVariants as location
use Rattle.message_parts.specs.declared.parts.Parts.{Parts}
use Rattle.message_parts.specs.declared.position.Position.{Position}
use Rattle.messages.specs.declared.report.FaultReport.{FaultReport}

-- a position: with its file as editors read it, ` (grammar.ag:4:47)`, or without a file as ` (line 4, column 47)`
abbrev pub place_text : Option (String Global) → Position → List ℕ
place_text (Some path) position =
    codes " (" ++ string_bytes path ++ codes ":" ++ decimal position.line ++ codes ":" ++ decimal position.column ++ codes ")"
place_text None position = codes " " ++ position_text position

-- what follows the fault: the position, if there is one
abbrev pub location_text : Location → Option (String Global) → List ℕ
location_text location.Whole file = []
location_text location.InFault file = []
location_text (location.At position) file = place_text file position

-- the separator before the first part: a colon and a space, or only a space for a fault in the whole of its input
abbrev pub first_separator : Location → List ℕ
first_separator location.Whole = codes " "
first_separator location.InFault = codes ": "
first_separator (location.At position) = codes ": "

-- a part after its separator; an empty one is not printed
abbrev pub part_text : List ℕ → List ℕ → List ℕ
part_text separator part = if length part == 0 then [] else separator ++ part

-- The separator before the part that comes after `part`: a comma and a space. If `part` is empty, it isn't printed, and the
-- result is `separator`, the one before `part`.
abbrev pub next_separator : List ℕ → List ℕ → List ℕ
next_separator separator part = if length part == 0 then separator else codes ", "

-- three parts, each after its separator; `separator` is that of the first one
abbrev pub three_parts : List ℕ → List ℕ → List ℕ → List ℕ → List ℕ
three_parts separator first second third =
    part_text separator first
    ++ part_text (next_separator separator first) second
    ++ part_text (next_separator (next_separator separator first) second) third

-- the parts that are not empty: what was expected, what was found, and what to do; `separator` is before the first of them
abbrev pub parts_text : List ℕ → Parts → List ℕ
parts_text separator parts =
    three_parts separator (string_bytes parts.expected) (string_bytes parts.found) (string_bytes parts.help)

-- the file at the end of a line that has no position
abbrev pub file_text : Location → Option (String Global) → List ℕ
file_text (location.At position) file = []
file_text location.Whole None = []
file_text location.InFault None = []
file_text location.Whole (Some path) = codes ": " ++ string_bytes path
file_text location.InFault (Some path) = codes ": " ++ string_bytes path

-- the line: the fault, its position, its parts, and its file; the file is left out if there is none, or a position has it
abbrev pub line_of : FaultReport → List ℕ
line_of report = printed report.fault ++ location_text report.location report.file
    ++ parts_text (first_separator report.location) report.parts ++ file_text report.location report.file
