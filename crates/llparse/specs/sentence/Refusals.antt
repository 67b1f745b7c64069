-- The faults of a parse for faults of the device, and broken writers (this project's).
use Rattle.std.specs.Prelude.{◌≡◌, ℕ, Bool, true}
use Rattle.treefile.specs.devices.Device.{Persists}
use Rattle.treefile.specs.declared.device.DeviceFault.{DeviceFault}
use Rattle.treefile.specs.declared.device.DeviceFault.TheVariants as device_fault
use Rattle.llparse.specs.declared.sentence.parse_fault.ParseFault.{ParseFault}
use Rattle.llparse.specs.declared.sentence.parse_fault.ParseFault.TheVariants as parse_fault

-- the fault of a parse for the fault of a call that writes
abbrev pub parse_fault_of : DeviceFault → ParseFault
parse_fault_of device_fault.Failed = parse_fault.Device
parse_fault_of device_fault.NoMemory = parse_fault.NoMemory

-- the device failed, or memory was refused
abbrev pub IsResourceFault : ParseFault → Type 0
IsResourceFault parse_fault.Device = Unit {0}
IsResourceFault parse_fault.NoMemory = Unit {0}
IsResourceFault fault = ⊥

-- The effects of a call that appends records, besides the device's content. `old` and `new` are the device before and after the
-- call, `is_broken` is the writer's state after it, and `failed` states that the call failed with D1. The writer is broken
-- exactly if `failed` holds, and then the device's failures rose. A device that is honest after the call was honest before
-- (`Persists`).
pub record BreaksWriter {D : Type 0} (honest : D → Bool) (failures : D → ℕ) (old new : D) (is_broken : Bool)
    (failed : Type 0) : Type 0 where
  pub persists : Persists (honest old) (honest new) (failures old) (failures new) failed
  pub breaks : failed → is_broken ≡ true
  pub broken : is_broken ≡ true → failed
