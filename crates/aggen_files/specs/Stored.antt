-- The content of the file of a device, by the calls made on the file. This project's.
use Rattle.std.specs.Prelude.{◌≡◌, ℕ, List, ◌++◌}
use Rattle.noted_file.specs.Calls.{replay}
use Rattle.treefile.specs.devices.Device.{WhenHonest}
use Rattle.treefile.specs.devices.Files.{FileDeviceState, content_of, is_honest_of}

-- The content of the file itself: the one that its recorded calls, replayed in their order, give. The bytes that the device has
-- only buffered are not in it.
abbrev pub stored_of : {F : Type 0} → FileDeviceState F → List ℕ
stored_of device = (replay device.events).stored

-- If the file is honest, it has after a call (`new`) the whole content that its device had before (`old`), including the bytes
-- that were buffered.
abbrev pub StoresContent : {F : Type 0} → FileDeviceState F → FileDeviceState F → Type 0
StoresContent old new = WhenHonest (is_honest_of new) (stored_of new ≡ content_of old)

-- A prefix of a content is written out.
abbrev pub StoresPrefix : (stored content : List ℕ) → Type 0
StoresPrefix stored content = (rest : List ℕ) × (content ≡ stored ++ rest)
