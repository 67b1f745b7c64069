pub mod Entries
pub mod Nodes
pub mod Pieces
pub mod Putting
pub mod Splits
pub mod Totals
