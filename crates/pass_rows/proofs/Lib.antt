pub mod Common
pub mod places
pub mod Recorded
