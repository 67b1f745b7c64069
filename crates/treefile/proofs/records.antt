-- Records determine their tree.
pub mod Copies
pub mod FirstFile
pub mod Fitting
pub mod Frames
pub mod Listing
pub mod OneTree
pub mod Orders
pub mod Records
pub mod Sizes
pub mod Spelled
pub mod Texts
pub mod Values
