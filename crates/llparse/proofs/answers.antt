-- The result of a parse, and the bytes that it writes.
pub mod Answered
pub mod FirstFile
pub mod Kept
pub mod Nexts
pub mod Putting
pub mod Refused
