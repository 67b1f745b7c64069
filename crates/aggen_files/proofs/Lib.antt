pub mod Parsed
pub mod Refusals
pub mod Stored
