pub mod Lines
pub mod Listings
pub mod OutFaults
pub mod Sample
pub mod Writing
