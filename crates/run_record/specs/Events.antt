-- What a run of the program does: it reads inputs, opens tree files, writes outputs and reports faults. All of this is this
-- project's.
use Rattle.std.specs.Prelude.{ℕ, ◌==◌, Bool, true, List, [], Option, Some, None, slice_index}

-- An event: its kind, whether it succeeded, a path (empty if there is none), and bytes.
abbrev pub Event : Type 0
Event = ℕ × Bool × List ℕ × List ℕ

-- all of these bytes were read from standard input
abbrev pub standard_event : List ℕ → Event
standard_event bytes = (0, true, [], bytes)

-- these bytes were read from the file at a path
abbrev pub file_event : (path bytes : List ℕ) → Event
file_event path bytes = (1, true, path, bytes)

-- the tree file at a path was opened, or the two of a translation in the folder at a path
abbrev pub open_event : (path : List ℕ) → Event
open_event path = (2, true, path, [])

-- These bytes were written to the file at a path, or printed on standard output if there is no path. If `ok` is false, the
-- writing failed: then none, some or all of them were written.
abbrev pub write_event : Bool → Option (List ℕ) → (bytes : List ℕ) → Event
write_event ok None bytes = (3, ok, [], bytes)
write_event ok (Some path) bytes = (4, ok, path, bytes)

-- This line was given to the screen. If `ok` is false, there was no memory for a line, and the screen got its parts.
abbrev pub report_event : Bool → (line : List ℕ) → Event
report_event ok line = (5, ok, [], line)

-- the event from the numbers, the path and the bytes that are passed to `note`
abbrev pub event_of : List ℕ → (path bytes : List ℕ) → Event
event_of numbers path bytes = (slice_index numbers 0, slice_index numbers 1 == 1, path, bytes)
