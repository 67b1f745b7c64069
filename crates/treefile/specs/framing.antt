-- The progress of reading or writing a file.
pub mod ExpectedRecords
pub mod Backward
pub mod Beginning
pub mod Ending
pub mod Puts
pub mod Writing
