pub mod Common
mod Lending
pub mod records
pub mod Run
pub mod SameFile
pub mod framing
pub mod WorkedFiles
pub mod WorkedRecords
pub mod WorkedReading
