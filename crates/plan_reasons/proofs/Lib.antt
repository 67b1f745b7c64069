pub mod Linked
pub mod Listed
