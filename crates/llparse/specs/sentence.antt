-- Parsing a sentence: its result, and the invariants of a parser.
pub mod Opened
pub mod Parsing
pub mod Refusals
pub mod Sentences
pub mod Turns
