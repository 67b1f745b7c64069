-- Reversing a tree file: what the result of `turn` means, the states between its steps, and a worked example.
pub mod Taking
pub mod Turning
pub mod Worked
