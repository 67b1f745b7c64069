pub mod Carried
pub mod Encoded
pub mod Prefixes
pub mod SharedText
pub mod Spelled
