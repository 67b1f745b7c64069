-- Where the values of the attributes at a place are in a row.
pub mod Entries
pub mod Found
pub mod Ranks
pub mod Slotted
pub mod Widths
