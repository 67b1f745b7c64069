-- Lemmas about the results of operations.
pub mod Growing
pub mod Tables
pub mod Wells
