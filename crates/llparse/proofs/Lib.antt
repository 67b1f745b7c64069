pub mod Common
pub mod answers
pub mod Examples
pub mod look_ahead
pub mod steps
pub mod Unique
