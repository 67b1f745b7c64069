pub mod Names
pub mod Positions
pub mod Printed
