pub mod Hints
pub mod Links
