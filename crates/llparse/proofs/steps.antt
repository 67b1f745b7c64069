-- The effects of the steps of a parser on the trees that complete the open nodes.
pub mod Begins
pub mod Closing
pub mod Prefixes
pub mod Leaves
pub mod Literals
pub mod Shown
pub mod Sizes
pub mod Stacks
pub mod Starts
pub mod Steps
pub mod Turning
