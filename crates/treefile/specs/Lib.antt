pub mod devices
pub mod Laws
pub mod records
pub mod Runs
pub mod framing
pub mod Worked
