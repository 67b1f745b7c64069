-- The word at the beginning of a text.
pub mod Beginnings
pub mod Choosing
pub mod ClassWords
pub mod LiteralWords
pub mod Orders
pub mod Tables
