-- The faults that are found, and that none is found if the numbered grammar is accepted.
pub mod Apart
pub mod First
pub mod Founds
pub mod Known
pub mod Marks
pub mod Reduced
pub mod Right
pub mod Ruled
pub mod Searched
pub mod Tested
