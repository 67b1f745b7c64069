-- The lists of code.
pub mod Collected
pub mod Counting
pub mod Shaped
