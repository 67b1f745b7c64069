-- Reading records from a tree file.
pub mod Fetching
