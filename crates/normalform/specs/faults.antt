-- The faults of a raw grammar.
pub mod AllFaults
pub mod Clauses
pub mod FaultList
pub mod Faults
pub mod Readable
pub mod Resolved
