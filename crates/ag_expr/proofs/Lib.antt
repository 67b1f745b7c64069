pub mod Common
pub mod reading
pub mod language
pub mod Scopes
