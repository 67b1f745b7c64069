-- The state of a device over a file, and the effects of its calls. All of this is this project's.
use Rattle.std.specs.Prelude.{◌≡◌, ℕ, Bool, List, [], ◌∷◌, ◌++◌, Option, Some, None, true, refl}
use Rattle.std.specs.Io.KnownBytes.{append_known}
use Rattle.noted_file.specs.Calls.{Event, append_event, initial_event, open_event, read_event, replay, truncate_event}
use Rattle.treefile.specs.devices.Device.{Persists}
use Rattle.treefile.specs.declared.file.Access.{Access}
use Rattle.treefile.specs.declared.file.Access.TheVariants.{Writing, Broken}

-- The file, its calls with their results (newest first), the access, the number of failed calls, and the
-- bytes that were appended to the device and are not written to the file yet.
pub record FileDeviceState (F : Type 0) : Type 0 where
  pub file : F
  pub events : List Event
  pub access : Access
  pub failures : ℕ
  pub buffered : List ℕ

-- the content of the device: the content that the file must have after its calls, then the bytes that are not written yet
abbrev pub content_of : {F : Type 0} → FileDeviceState F → List ℕ
content_of device = (replay device.events).stored ++ device.buffered

-- whether each length and each byte that the file has returned so far agrees with the bytes written to it
abbrev pub is_honest_of : {F : Type 0} → FileDeviceState F → Bool
is_honest_of device = (replay device.events).is_honest

-- The bytes that the file has taken, and then the bytes that are not written yet. `contents` gives the bytes of a file, or None
-- if contracts can't name them; then the result is None too.
abbrev pub taken : {F : Type 0} → (F → Option (List ℕ)) → FileDeviceState F → Option (List ℕ)
taken contents device = append_known (contents device.file) device.buffered

-- A device with this access over a file that was just opened at this path: no bytes are buffered, no call has failed, and the
-- record of calls is the given one and then the call that opened the file.
pub record IsNew {F : Type 0} (use_of_file : Access) (path : List ℕ) (before : List Event)
    (device : FileDeviceState F) : Type 0 where
  pub access : device.access ≡ use_of_file
  pub buffered : device.buffered ≡ []
  pub failures : device.failures ≡ 0
  pub events : device.events ≡ open_event path ∷ before

-- the effects of a call on a device over a file besides its content; `failed` states that the call failed with D1
abbrev pub FilePersists : {F : Type 0} → FileDeviceState F → FileDeviceState F → Type 0 → Type 0
FilePersists old new failed = Persists (is_honest_of old) (is_honest_of new) old.failures new.failures failed

-- A device that was broken before a call (since a write failed) stays broken, and the call fails with D1, which `failed` states.
pub record StaysBroken {F : Type 0} (old new : FileDeviceState F) (failed : Type 0) : Type 0 where
  pub fails : old.access ≡ Broken → failed
  pub stays : old.access ≡ Broken → new.access ≡ Broken

-- ---- worked examples

-- a truncated file that took two bytes, and a third byte that is buffered
abbrev pub third_is_buffered : FileDeviceState (List ℕ)
third_is_buffered =
    record {
      file = 7 ∷ 8 ∷ [];
      events = append_event true (7 ∷ 8 ∷ []) ∷ truncate_event true ∷ open_event [] ∷ initial_event (6 ∷ []) ∷ [];
      access = Writing;
      failures = 0;
      buffered = 9 ∷ [];
    }

pub taken_of_three : taken Some third_is_buffered ≡ Some (7 ∷ 8 ∷ 9 ∷ [])
taken_of_three = refl

-- the bytes taken can't be named if the bytes of the file can't be named
pub taken_unknown : taken (λ _. None) third_is_buffered ≡ None
taken_unknown = refl

-- the content of the device has all three bytes, and no result was wrong so far
pub content_of_three : content_of third_is_buffered ≡ 7 ∷ 8 ∷ 9 ∷ []
content_of_three = refl

pub three_honest : is_honest_of third_is_buffered ≡ true
three_honest = refl

-- a file that returns another byte than was written is not honest
pub other_byte : is_honest_of (record third_is_buffered { events = read_event 1 true (5 ∷ []) ∷ third_is_buffered.events })
    ≡ Bool.false
other_byte = refl
