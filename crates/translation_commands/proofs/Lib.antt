pub mod Batches
pub mod Evaluated
pub mod Translated
