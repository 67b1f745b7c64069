-- The proofs for the sample grammars.
pub mod NumberSample
pub mod Ordered
pub mod Refused
pub mod TokenSample
