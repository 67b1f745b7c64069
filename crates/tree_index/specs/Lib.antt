pub mod Bodies
pub mod Faults
pub mod Nodes
pub mod Reading
pub mod Ready
pub mod Tokens
