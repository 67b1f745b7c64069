-- The JSON object of a fault, in one line. The members of an object are in the order of their names. This project's.
use Rattle.std.specs.Prelude.{ℕ, List, [], ◌∷◌, ◌++◌, Option, None, Some, String, codes, map, string_bytes}
use Rattle.std.specs.declared.alloc.Global.{Global}
use Rattle.fault_objects.specs.declared.details.FaultDetails.{FaultDetails}
use Rattle.message_texts.specs.declared.grammar_text.Span.{Span}
use Rattle.message_texts.specs.declared.grammars.related.RelatedPlace.{RelatedPlace}
use Rattle.messages.specs.Pieces.{message_of, number_of}
use Rattle.messages.specs.declared.report.FaultReport.{FaultReport}
use Rattle.serde_json.specs.Data.{Data, Members, array, member, no_members, number, object, string, unsigned}
use Rattle.serde_json.specs.View.{items_of}
use Rattle.serde_json.specs.Written.{compact_text}

abbrev pub natural : ℕ → Data
natural n = number (unsigned n)

-- the offsets of a part of the text, and their positions; then other members
abbrev pub place_members : Span → Members → Members
place_members span others =
    member (codes "at") (natural span.at) (member (codes "column") (natural span.first.column)
    (member (codes "end") (natural span.end) (member (codes "end_column") (natural span.last.column)
    (member (codes "end_line") (natural span.last.line) (member (codes "line") (natural span.first.line) others)))))

abbrev pub members_at : Option Span → Members → Members
members_at None others = others
members_at (Some span) others = place_members span others

-- another place that the fault is about
abbrev pub related_data : RelatedPlace → Data
related_data place =
    object (place_members place.span (member (codes "message") (string (string_bytes place.message)) no_members))

-- a rule that is missing
abbrev pub rule_data : String Global → Data
rule_data rule = string (string_bytes rule)

-- the texts of a fault, and what its rules and related places are as data
abbrev pub word_members : (code message remedy : List ℕ) → (rules related : Data) → Members
word_members code message remedy rules related =
    member (codes "message") (string message) (member (codes "number") (string code)
    (member (codes "related") related (member (codes "remedy") (string remedy) (member (codes "rules") rules no_members))))

-- the object: the place, if the fault has one, the message, the number, other places, what to do, and missing rules
abbrev pub object_of : FaultReport → FaultDetails → Data
object_of report details =
    object (members_at details.place (word_members (number_of report.fault) (message_of report) (string_bytes report.parts.help)
    (array (items_of (map rule_data details.rules.items))) (array (items_of (map related_data details.related.items)))))

-- the line of a value: its text with no space, and LF
abbrev pub line_of : Data → List ℕ
line_of value = compact_text value ++ 10 ∷ []

abbrev pub object_line : FaultReport → FaultDetails → List ℕ
object_line report details = line_of (object_of report details)

-- the last line if faults have no line: their number
abbrev pub rest_data : (count : ℕ) → Data
rest_data count = object (member (codes "more") (natural count) no_members)

abbrev pub rest_line : (count : ℕ) → List ℕ
rest_line count = line_of (rest_data count)
