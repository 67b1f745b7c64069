-- The expression language: its syntax, and its parser as plain functions.
pub mod Chains
pub mod Expression
pub mod Indexes
pub mod Laws
pub mod Names
pub mod Occurrences
pub mod Offsets
pub mod Reading
pub mod State
pub mod Syntax
pub mod Until
pub mod Worked
