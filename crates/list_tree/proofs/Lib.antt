pub mod Encoded
pub mod Lists
