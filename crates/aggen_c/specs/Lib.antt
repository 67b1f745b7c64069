pub mod Answers
pub mod Holding
pub mod Numbers
pub mod Operations
pub mod Refusals
pub mod Results
