-- The conversions of faults of other crates to faults of this crate. All of this is this project's.
use Rattle.ag_value.specs.declared.fault.ValueFault.{ValueFault}
use Rattle.ag_value.specs.declared.fault.ValueFault.TheVariants as value_fault
use Rattle.treefile.specs.declared.reading.FrameFault.{FrameFault}
use Rattle.treefile.specs.declared.reading.FrameFault.TheVariants as frame_fault
use Rattle.tree_index.specs.declared.fault.ShapeFault.{ShapeFault}
use Rattle.tree_index.specs.declared.fault.ShapeFault.TheVariants as record_fault
use Rattle.tree_index.specs.declared.fault.TreeFault.{TreeFault}
use Rattle.tree_index.specs.declared.fault.TreeFault.TheVariants as tree_fault

-- the fault of a record, for a fault of reading a value in it
abbrev pub record_fault_of : ValueFault → ShapeFault
record_fault_of value_fault.Malformed = record_fault.Damaged
record_fault_of value_fault.NoMemory = record_fault.NoMemory

-- the fault of a tree file, for a fault of reading a frame of it
abbrev pub tree_fault_of : FrameFault → TreeFault
tree_fault_of frame_fault.NotATreeFile = tree_fault.Damaged 0
tree_fault_of (frame_fault.Damaged at) = tree_fault.Damaged at
tree_fault_of frame_fault.Device = tree_fault.Device
tree_fault_of frame_fault.NoMemory = tree_fault.NoMemory
