pub mod Additions
pub mod Clauses
pub mod Edges
pub mod Following
pub mod Samples
pub mod Search
pub mod Waiting
