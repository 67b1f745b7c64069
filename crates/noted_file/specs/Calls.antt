-- The entries of a record of calls on a file, and a replay of them: the content that the file must have, and whether the
-- returned lengths and bytes agree with it. All of this is this project's.
use Rattle.std.specs.Prelude.{◌≡◌, ℕ, zero, suc, ◌==◌, Bool, true, false, not, ◌&&◌, ◌||◌, if◌then◌else◌, List, [], ◌∷◌, ◌++◌}
use Rattle.std.specs.Prelude.{length, take, drop, slice_index, bytes_eq, refl}

-- An entry of a record: its kind, an offset or a length in bytes (0 if it has neither), whether the call succeeded, and bytes.
-- Kind 0 is an initial content, and the kinds 1 to 5 are calls.
abbrev pub Event : Type 0
Event = ℕ × ℕ × Bool × List ℕ

-- before all calls: an initial content of the file
abbrev pub initial_event : List ℕ → Event
initial_event bytes = (0, 0, true, bytes)

-- the file at this path was opened
abbrev pub open_event : List ℕ → Event
open_event path = (1, 0, true, path)

-- the length of the file was requested, and `len` was the result; if `ok` is false, the request failed and `len` means nothing
abbrev pub length_event : Bool → ℕ → Event
length_event ok len = (2, len, ok, [])

-- these bytes were appended if `ok` is true; otherwise the append failed
abbrev pub append_event : Bool → List ℕ → Event
append_event ok bytes = (3, 0, ok, bytes)

-- these bytes were read from offset `at` on; if `ok` is false, the read failed and they mean nothing
abbrev pub read_event : ℕ → Bool → List ℕ → Event
read_event at ok bytes = (4, at, ok, bytes)

-- the file was truncated to length 0 if `ok` is true; otherwise the truncation failed
abbrev pub truncate_event : Bool → Event
truncate_event ok = (5, 0, ok, [])

-- the entry from the numbers and the bytes that are passed to `note`
abbrev pub event_of : List ℕ → List ℕ → Event
event_of numbers bytes = (slice_index numbers 0, slice_index numbers 1, slice_index numbers 2 == 1, bytes)

-- The content that a file must have after its calls, and whether every returned length and byte agreed with that.
pub record Replay : Type 0 where
  pub stored : List ℕ
  pub is_honest : Bool

-- whether a content has these bytes at an offset
abbrev pub has_bytes_at : List ℕ → ℕ → List ℕ → Bool
has_bytes_at stored at bytes = bytes_eq (take (length bytes) (drop at stored)) bytes

-- The effect of a call, given by the four parts of its entry, on a replay. A failed call has no effect. A successful append or
-- truncation changes the content. If a returned length or returned bytes disagree with the content, the file is not honest from
-- then on. The entry of kind 0 sets the content. The last case is that of kind 5; no greater kind is recorded.
abbrev pub after_call : ℕ → ℕ → Bool → List ℕ → Replay → Replay
after_call zero number ok bytes file = record file { stored = bytes }
after_call (suc zero) number ok bytes file = file
after_call (suc (suc zero)) len ok bytes file =
    record file { is_honest = file.is_honest && (not ok || (len == length file.stored)) }
after_call (suc (suc (suc zero))) number ok bytes file = record file { stored = if ok then file.stored ++ bytes else file.stored }
after_call (suc (suc (suc (suc zero)))) at ok bytes file =
    record file { is_honest = file.is_honest && (not ok || has_bytes_at file.stored at bytes) }
after_call (suc (suc (suc (suc (suc more))))) number ok bytes file = record file { stored = if ok then [] else file.stored }

-- the replay of a list of calls, the newest first; without any call the file is empty and honest
abbrev pub replay : List Event → Replay
replay [] = record { stored = []; is_honest = true }
replay (e ∷ earlier) = after_call e.0 e.1 e.2 e.3 (replay earlier)

-- the record of a file that is not open yet: one entry, an initial content of the file
abbrev pub IsFresh : List Event → Type 0
IsFresh events = (bytes : List ℕ) × (events ≡ initial_event bytes ∷ [])

-- ---- worked examples: replays of a few calls, each on a file that has one byte when it is opened

-- After two bytes were appended, the returned length 3 agrees with the replay, so the file is honest.
pub length_of_three : (replay
    (length_event true 3 ∷ append_event true (8 ∷ 9 ∷ []) ∷ open_event [] ∷ initial_event (7 ∷ []) ∷ [])).is_honest ≡ true
length_of_three = refl

-- After the same append, the returned length 2 disagrees with the replay, so the file is not honest. It does not
-- become honest again when it then returns 3.
pub length_of_two : (replay
    (length_event true 3 ∷ length_event true 2 ∷ append_event true (8 ∷ 9 ∷ []) ∷ open_event [] ∷ initial_event (7 ∷ [])
    ∷ [])).is_honest ≡ false
length_of_two = refl

-- After a truncation and an append of the byte 9, the file must contain this byte alone, and the byte that was read
-- agrees with that.
pub content_after_truncation : (replay
    (read_event 0 true (9 ∷ []) ∷ append_event true (9 ∷ []) ∷ truncate_event true ∷ open_event [] ∷ initial_event (7 ∷ []) ∷ []))
    ≡ record { stored = 9 ∷ []; is_honest = true }
content_after_truncation = refl

-- After the same truncation and append, the returned byte 7 is the one from before the truncation, so the file is
-- not honest.
pub byte_from_before : (replay
    (read_event 0 true (7 ∷ []) ∷ append_event true (9 ∷ []) ∷ truncate_event true ∷ open_event [] ∷ initial_event (7 ∷ [])
    ∷ [])).is_honest ≡ false
byte_from_before = refl
