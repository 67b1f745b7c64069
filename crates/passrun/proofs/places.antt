-- The slots of a node's values, and that a pass of a plan can run.
pub mod Able
pub mod Agreeing
pub mod Copies
pub mod Slots
pub mod Tables
