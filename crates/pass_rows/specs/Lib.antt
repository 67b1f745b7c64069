pub mod Faults
pub mod layouts
pub mod Nodes
pub mod Places
pub mod Printed
pub mod reading
pub mod Settings
