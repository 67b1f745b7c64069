-- The fault that a reading call returns if a call of its device, or a request for memory, failed. This
-- project's.
use Rattle.treefile.specs.declared.device.DeviceFault.{DeviceFault}
use Rattle.treefile.specs.declared.device.DeviceFault.TheVariants as device_fault
use Rattle.treefile.specs.declared.reading.FrameFault.{FrameFault}
use Rattle.treefile.specs.declared.reading.FrameFault.TheVariants as frame_fault

-- `Device` (D1) for `Failed`, and `NoMemory` for `NoMemory`
abbrev pub frame_fault_of : DeviceFault → FrameFault
frame_fault_of device_fault.Failed = frame_fault.Device
frame_fault_of device_fault.NoMemory = frame_fault.NoMemory
