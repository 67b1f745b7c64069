pub mod Ahead
pub mod Laws
pub mod Printed
pub mod sentence
pub mod table
pub mod Worked
