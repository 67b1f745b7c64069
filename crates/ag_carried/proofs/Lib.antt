pub mod Encodings
pub mod Tables
pub mod Texts
