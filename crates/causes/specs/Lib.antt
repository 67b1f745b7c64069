pub mod Chains
pub mod Indexed
pub mod Laws
pub mod Rules
