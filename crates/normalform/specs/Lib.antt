pub mod Examples
pub mod faults
pub mod Laws
pub mod numbers
pub mod Printed
