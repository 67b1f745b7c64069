pub mod Common
pub mod found
pub mod Listing
pub mod numbered
