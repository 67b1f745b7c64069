-- The fault that `root_text` of `roottext` returns for a fault of the tree file (this project's).
use Rattle.treefile.specs.declared.reading.FrameFault.{FrameFault}
use Rattle.treefile.specs.declared.reading.FrameFault.TheVariants as frame_fault
use Rattle.agoutput.specs.declared.out_fault.OutFault.{OutFault}
use Rattle.agoutput.specs.declared.out_fault.OutFault.TheVariants as out_fault

-- each fault becomes the one of the same name
abbrev pub out_fault_of : FrameFault → OutFault
out_fault_of frame_fault.NotATreeFile = out_fault.NotATreeFile
out_fault_of (frame_fault.Damaged at) = out_fault.Damaged at
out_fault_of frame_fault.Device = out_fault.Device
out_fault_of frame_fault.NoMemory = out_fault.NoMemory
