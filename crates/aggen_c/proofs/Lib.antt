pub mod Answered
pub mod Results
pub mod Values
