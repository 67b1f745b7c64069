pub mod Damage
pub mod Laws
pub mod Passed
pub mod passing
pub mod reading
pub mod Rounds
