-- The effects of an append on a device over a file. All of this is this project's.
use Rattle.std.specs.Prelude.{◌≡◌, ℕ, List, Option, Result, IsErrOf, OnOk}
use Rattle.std.specs.Io.KnownBytes.{Appends, Keeps}
use Rattle.treefile.specs.devices.Files as files
use Rattle.treefile.specs.devices.Files.{FileDeviceState, StaysBroken}
use Rattle.treefile.specs.declared.device.DeviceFault.{DeviceFault}
use Rattle.treefile.specs.declared.device.DeviceFault.TheVariants.{Failed, NoMemory}
use Rattle.treefile.specs.declared.file.Access.TheVariants.{Broken, Reading, Writing}

-- The effects of an append besides those on the content. The bytes taken are those of the file, if they are known, and then the
-- buffered ones. A successful append adds the appended bytes to the bytes taken, and keeps the access. An append that fails with
-- NoMemory does not change the bytes taken. An append fails with D1 (Failed) if the file is only read. An append to a writable
-- file that fails with D1 breaks the device. An append to a broken device fails with D1, and the device stays broken.
pub record AppendsToFile {F : Type 0} (contents : F → Option (List ℕ)) (bytes : List ℕ) (old new : FileDeviceState F)
    (result : Result (Unit {0}) DeviceFault) : Type 0 where
  pub taken : OnOk result (Appends (files.taken contents old) (files.taken contents new) bytes)
  pub refused : IsErrOf result NoMemory → Keeps (files.taken contents old) (files.taken contents new)
  pub reading : old.access ≡ Reading → IsErrOf result Failed
  pub access : OnOk result (new.access ≡ old.access)
  pub breaks : old.access ≡ Writing → IsErrOf result Failed → new.access ≡ Broken
  pub broken : StaysBroken old new (IsErrOf result Failed)
