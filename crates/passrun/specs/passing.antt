-- A running pass.
pub mod Ahead
pub mod Change
pub mod OpenNodes
pub mod RunInvariant
pub mod Putting
pub mod Running
pub mod Working
