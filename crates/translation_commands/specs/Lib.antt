pub mod Batches
pub mod Evaluations
pub mod Runs
