-- Devices: the effects of their calls, and their failures.
pub mod Appending
pub mod Device
pub mod Faults
pub mod Files
pub mod Fuse
pub mod Several
