-- The conversions of other faults to those of a record and of a pass. All definitions are this project's.
use Rattle.ag_value.specs.declared.fault.ValueFault.{ValueFault}
use Rattle.ag_value.specs.declared.fault.ValueFault.TheVariants as value_fault
use Rattle.backreader.specs.declared.turning.TurnFault.{TurnFault}
use Rattle.backreader.specs.declared.turning.TurnFault.TheVariants as turn_fault
use Rattle.treefile.specs.declared.reading.FrameFault.{FrameFault}
use Rattle.treefile.specs.declared.reading.FrameFault.TheVariants as frame_fault
use Rattle.treefile.specs.declared.device.DeviceFault.{DeviceFault}
use Rattle.treefile.specs.declared.device.DeviceFault.TheVariants as device_fault
use Rattle.pass_rows.specs.declared.reading.record.RecordFault.{RecordFault}
use Rattle.pass_rows.specs.declared.reading.record.RecordFault.TheVariants as record_fault
use Rattle.pass_rows.specs.declared.run_fault.RunFault.{RunFault}
use Rattle.pass_rows.specs.declared.run_fault.RunFault.TheVariants as run_fault

-- The fault of reading a record for a fault of reading a value.
abbrev pub record_fault_of : ValueFault → RecordFault
record_fault_of value_fault.Malformed = record_fault.Damaged
record_fault_of value_fault.NoMemory = record_fault.NoMemory

-- The fault of a pass for a fault of reading a frame. If the content does not begin as a tree file, the
-- offset is 0.
abbrev pub run_fault_of_frame : FrameFault → RunFault
run_fault_of_frame frame_fault.NotATreeFile = run_fault.Damaged 0
run_fault_of_frame (frame_fault.Damaged at) = run_fault.Damaged at
run_fault_of_frame frame_fault.Device = run_fault.Device
run_fault_of_frame frame_fault.NoMemory = run_fault.NoMemory

-- The fault of a pass for a fault of a device that is written.
abbrev pub run_fault_of_device : DeviceFault → RunFault
run_fault_of_device device_fault.Failed = run_fault.Device
run_fault_of_device device_fault.NoMemory = run_fault.NoMemory

-- The fault of an upgrade for a fault of reversing the intermediate file. With an honest device only D1 and
-- NoMemory occur: the file can be reversed.
abbrev pub run_fault_of_turn : TurnFault → RunFault
run_fault_of_turn turn_fault.NotATreeFile = run_fault.Damaged 0
run_fault_of_turn (turn_fault.Damaged at) = run_fault.Damaged at
run_fault_of_turn (turn_fault.NotATree at) = run_fault.Damaged at
run_fault_of_turn turn_fault.TooLarge = run_fault.TooDeep
run_fault_of_turn turn_fault.Device = run_fault.Device
run_fault_of_turn turn_fault.NoMemory = run_fault.NoMemory
