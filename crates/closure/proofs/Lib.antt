pub mod Additions
pub mod Following
pub mod Marks
pub mod Noted
pub mod Positions
pub mod Reached
pub mod Sample
