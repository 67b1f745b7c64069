pub mod PartCopies
pub mod Sides
