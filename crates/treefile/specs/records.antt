-- The records of a tree and the bytes of its file.
pub mod FirstFile
pub mod Listed
pub mod OneTree
pub mod Orders
pub mod Records
pub mod TreeFile
