-- The theory of parsers over tokens with offsets, for any language: parsers that accept exactly their
-- language, and where they fail.
pub mod Exact
pub mod Steady
pub mod Turns
