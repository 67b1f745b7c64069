-- Examples of jobs that were worked out by hand.
use Rattle.std.specs.Prelude.{[], codes}
use Rattle.ag_job.specs.Jobs.{AreParts, HasNoSeparator}

-- The separator may end with CR and LF, and neither belongs to the sentence.
abbrev pub CrAndLfEnd : Type 0
CrAndLfEnd = AreParts (codes "a\n%%\r\nb") (codes "a\n") (codes "b")

-- The separator may be the last line and have no LF: the sentence is empty.
abbrev pub TheLastEnds : Type 0
TheLastEnds = AreParts (codes "a\n%%") (codes "a\n") []

-- A CR with no LF after it doesn't end a line: it belongs to the line, which is not `%%` then.
abbrev pub CrAloneIsNone : Type 0
CrAloneIsNone = HasNoSeparator (codes "a\n%%\r")

-- A line that begins with a space is not a separator.
abbrev pub SpacedIsNone : Type 0
SpacedIsNone = HasNoSeparator (codes "a\n %%\nb")

-- A line `%%%` is not a separator.
abbrev pub LongerIsNone : Type 0
LongerIsNone = HasNoSeparator (codes "a\n%%%\nb")

-- The first of two separators splits the job, and the second belongs to the sentence.
abbrev pub TheFirstCuts : Type 0
TheFirstCuts = AreParts (codes "a\n%%\nb\n%%\nc") (codes "a\n") (codes "b\n%%\nc")

-- A job that begins with the separator has an empty grammar.
abbrev pub NothingBefore : Type 0
NothingBefore = AreParts (codes "%%\nb") [] (codes "b")
