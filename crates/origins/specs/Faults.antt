-- The fault of this crate for each fault of a function that it calls. This project's.
use Rattle.ag_value.specs.declared.fault.ValueFault.{ValueFault}
use Rattle.ag_value.specs.declared.fault.ValueFault.TheVariants as value_fault
use Rattle.origins.specs.declared.fault.DecodeFault.{DecodeFault}
use Rattle.origins.specs.declared.fault.DecodeFault.TheVariants as record_fault

-- the fault of reading a record, for a fault of reading a value in it
abbrev pub record_fault_of : ValueFault → DecodeFault
record_fault_of value_fault.Malformed = record_fault.Damaged
record_fault_of value_fault.NoMemory = record_fault.NoMemory
