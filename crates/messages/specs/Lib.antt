pub mod Pieces
pub mod Printed
