pub mod Opening
pub mod Paths
pub mod Stored
pub mod Trees
