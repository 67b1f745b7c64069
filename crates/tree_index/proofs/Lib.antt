pub mod Children
pub mod Counts
pub mod Kids
pub mod NoChild
pub mod Paths
pub mod Steps
