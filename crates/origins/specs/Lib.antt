pub mod Arising
pub mod Causes
pub mod Faults
pub mod Laws
pub mod Origins
pub mod Records
pub mod Rows
