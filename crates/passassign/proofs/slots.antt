-- The table of attributes with its slots and rows, and the dependencies between slots.
pub mod Few
pub mod Linked
pub mod Lists
pub mod OpenOnes
pub mod Options
pub mod TableRows
