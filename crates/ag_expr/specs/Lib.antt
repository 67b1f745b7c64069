pub mod language
pub mod Printed
