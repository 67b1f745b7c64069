-- The file of version 1 of a tree is converted to its file of version 2, both of pass 0.
pub mod Converted
pub mod Upgraded
