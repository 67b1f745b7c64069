-- The values of calls, of `if` and of operators for given values of their arguments, and laws about them.
pub mod Calls
pub mod Laws
pub mod Operators
pub mod Worked
