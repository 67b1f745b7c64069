pub mod Conditions
pub mod Lists
pub mod Operands
