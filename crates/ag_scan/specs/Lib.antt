pub mod Cutting
pub mod Laws
pub mod Printed
pub mod Table
pub mod TokenReader
pub mod Tokens
pub mod Words
pub mod Worked
