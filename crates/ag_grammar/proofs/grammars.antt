-- Lemmas about attribute grammars.
pub mod Children
pub mod Counting
pub mod Directions
pub mod EachNode
pub mod Kept
pub mod Members
pub mod OneSolution
pub mod Productive
pub mod Rules
pub mod Running
pub mod samples
pub mod Translated
