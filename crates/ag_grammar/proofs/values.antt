-- Lemmas about the results of operations.
pub mod Same
pub mod Worked
